use Rattle.std.specs.Prelude.{◌≡◌}
use Rattle.gated_store.specs.Kept.{IsKept}
use Rattle.many_rules.specs.Ledgers.{ledgers, readers}
use Rattle.many_rules.specs.Makes.{Makes}
use Rattle.world_core.specs.World.{Stands, world}
use Rattle.world_judges.specs.Judging.{Pass}
use Rattle.world_judges.proofs.judging.judge_each.Given as goal

-- the cells of the partitions so far were judged
abbrev pub invariant-parts : goal.invariant-parts
invariant-parts g l = record {
  tells : g.V.Site.tells l.store.logs.site → g.V.Site.tells l.fn.store.logs.site;
  keeps : IsKept g.M.Picked.origin.count (ledgers g.M.Picked.rules) (readers g.M.Picked.rules) (Makes g.M.Picked.rules) l.store;
  stands : Stands g.M.Picked.rules (world l.store l.life.cells.items l.life.packets.items l.life.marks.items l.life.ended);
  mode : l.life.mode ≡ l.fn.life.mode;
  nodes : l.life.nodes ≡ l.fn.life.nodes;
  pass : Pass g.M.Picked.rules l.fn.life.mode l.fn.life.nodes (world l.fn.store l.fn.life.cells.items l.fn.life.packets.items l.fn.life.marks.items l.fn.life.ended) l.partition l.kept (world l.store l.life.cells.items l.life.packets.items l.life.marks.items l.life.ended);
}
