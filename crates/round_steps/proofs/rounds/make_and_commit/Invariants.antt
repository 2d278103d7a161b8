use Rattle.std.specs.Prelude.{◌≡◌}
use Rattle.hub_store.specs.Changes.{trail_in}
use Rattle.round_steps.specs.Labels.{AreFew, IsCounted}
use Rattle.round_steps.specs.Serving.{GoesOn, IsServing}
use Rattle.round_steps.proofs.rounds.make_and_commit.Given as goal

-- the call goes on
abbrev pub invariant-turns : goal.invariant-turns
invariant-turns g l = record {
  goes : GoesOn g.M.Picked.rules l.fn.store l.store;
  serving : IsServing g.M.Picked.origin g.M.Picked.rules l.store l.cells.items l.course.port;
  latest : l.store.logs.latest ≡ l.fn.store.logs.latest;
  fewer : AreFew g.M.Picked.rules l.fn.pace.steps (trail_in l.fn.store.logs) → AreFew g.M.Picked.rules l.fn.pace.steps (trail_in l.store.logs);
  counted : IsCounted l.course.seen (trail_in l.store.logs);
}
