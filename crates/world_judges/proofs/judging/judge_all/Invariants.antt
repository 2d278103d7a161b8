use Rattle.std.specs.Prelude.{◌≡◌}
use Rattle.gated_store.specs.Kept.{IsKept}
use Rattle.many_rules.specs.Ledgers.{ledgers, readers}
use Rattle.many_rules.specs.Makes.{Makes}
use Rattle.world_core.specs.World.{Stands, world}
use Rattle.world_judges.specs.Judging.{Passes}
use Rattle.world_judges.proofs.Held.{held}
use Rattle.world_judges.proofs.judging.judge_all.Given as goal

-- all cells were judged so often, and each time something was given up
abbrev pub invariant-passes : goal.invariant-passes
invariant-passes g l = record {
  tells : g.V.Site.tells l.store.logs.site → g.V.Site.tells l.fn.store.logs.site;
  keeps : IsKept g.M.Picked.origin.count (ledgers g.M.Picked.rules) (readers g.M.Picked.rules) (Makes g.M.Picked.rules) l.store;
  stands : Stands g.M.Picked.rules (world l.store l.life.cells.items l.life.packets.items l.life.marks.items l.life.ended);
  mode : l.life.mode ≡ l.fn.life.mode;
  nodes : l.life.nodes ≡ l.fn.life.nodes;
  passes : Passes g.M.Picked.rules l.fn.life.mode l.fn.life.nodes (world l.fn.store l.fn.life.cells.items l.fn.life.packets.items l.fn.life.marks.items l.fn.life.ended) (world l.store l.life.cells.items l.life.packets.items l.life.marks.items l.life.ended);
}

-- what all cells hold
abbrev pub decreases-passes : goal.decreases-passes
decreases-passes g l = held l.life.cells.items
