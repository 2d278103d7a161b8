use Rattle.std.specs.Prelude.{◌≤◌, ◌+◌, ◌*◌, length}
use Rattle.hub_store.specs.Changes.{KeepsAll, trail_in}
use Rattle.node_core.specs.Growing.{GrowsOn}
use Rattle.node_core.specs.Running.{IsRunning}
use Rattle.node_core.proofs.waves.settle_all.Given as goal

-- the call goes on, and of each partition so far at most one frame was settled
abbrev pub invariant-parts : goal.invariant-parts
invariant-parts g l = record {
  keeps : KeepsAll l.fn.store.logs l.store.logs;
  grows : GrowsOn g.M.Picked.rules l.fn.store l.store;
  few : length (trail_in l.store.logs) ≤ length (trail_in l.fn.store.logs) + 64 * l.part;
  running : IsRunning g.M.Picked.origin g.M.Picked.rules l.store l.cells.items;
}
