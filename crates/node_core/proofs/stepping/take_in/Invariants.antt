use Rattle.std.specs.Prelude.{◌≡◌, length}
use Rattle.cell_frames.specs.Joined.{StoreView}
use Rattle.node_core.specs.Stepping.{OnlyWaits}
use Rattle.world_steps.specs.Cells.{AllJoined}
use Rattle.node_core.proofs.stepping.take_in.Given as goal

-- packets came so far
abbrev pub invariant-packets : goal.invariant-packets
invariant-packets g l = record {
  many : length l.cells.items ≡ length l.fn.cells.items;
  waits : OnlyWaits l.part l.fn.cells.items l.cells.items;
  joined : (s : StoreView) → AllJoined g.M.Picked.rules s l.fn.cells.items → AllJoined g.M.Picked.rules s l.cells.items;
}
