use Rattle.std.specs.Prelude.{◌≡◌, ◌≤◌, ◌++◌, length}
use Rattle.std.specs.Vec.{vec_capacity}
use Rattle.gated_store.specs.Kept.{IsKept}
use Rattle.many_rules.specs.Ledgers.{ledgers, readers}
use Rattle.many_rules.specs.Makes.{Makes}
use Rattle.world_core.specs.World.{Stands, world}
use Rattle.world_lives.specs.Lives.{Lives}
use Rattle.world_lives.proofs.playing.play.Given as goal

-- the deeds so far were done, and there is room for the answers of those that are left
abbrev pub invariant-deeds : goal.invariant-deeds
invariant-deeds g l = record {
  tells : g.V.Site.tells l.store.logs.site → g.V.Site.tells l.fn.store.logs.site;
  kept : IsKept g.M.Picked.origin.count (ledgers g.M.Picked.rules) (readers g.M.Picked.rules) (Makes g.M.Picked.rules) l.store;
  stands : Stands g.M.Picked.rules (world l.store l.life.cells.items l.life.packets.items l.life.marks.items l.life.ended);
  mode : l.life.mode ≡ l.fn.life.mode;
  nodes : l.life.nodes ≡ l.fn.life.nodes;
  lives : Lives g.M.Picked.rules l.fn.life.mode l.fn.life.nodes (world l.fn.store l.fn.life.cells.items l.fn.life.packets.items l.fn.life.marks.items l.fn.life.ended) l.yielded l.answers.items (world l.store l.life.cells.items l.life.packets.items l.life.marks.items l.life.ended);
  many : length l.yielded ≡ length l.answers.items;
  rest : l.yielded ++ l.deed-iterator.rest.items ≡ l.fn.deeds.items;
  room : length l.fn.deeds.items ≤ vec_capacity l.answers;
}
