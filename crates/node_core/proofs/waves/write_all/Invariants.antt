use Rattle.std.specs.Prelude.{◌≡◌}
use Rattle.hub_store.specs.Changes.{KeepsAll, trail_in}
use Rattle.node_core.specs.Running.{IsRunning}
use Rattle.node_core.proofs.waves.write_all.Given as goal

-- the call goes on
abbrev pub invariant-parts : goal.invariant-parts
invariant-parts g l = record {
  keeps : KeepsAll l.fn.store.logs l.store.logs;
  trail : trail_in l.store.logs ≡ trail_in l.fn.store.logs;
  running : IsRunning g.M.Picked.origin g.M.Picked.rules l.store l.cells.items;
}
