use Rattle.std.specs.Prelude.{◌≡◌}
use Rattle.hub_store.specs.Changes.{trail_in}
use Rattle.round_steps.specs.Serving.{GoesOn, IsServing}
use Rattle.round_steps.proofs.tidying.settle_given_up.Given as goal

-- the call goes on
abbrev pub invariant-passes : goal.invariant-passes
invariant-passes g l = record {
  goes : GoesOn g.M.Picked.rules l.fn.store l.store;
  serving : IsServing g.M.Picked.origin g.M.Picked.rules l.store l.cells.items l.course.port;
  latest : l.store.logs.latest ≡ l.fn.store.logs.latest;
  seen : l.course.seen ≡ l.fn.course.seen;
  trail : trail_in l.store.logs ≡ trail_in l.fn.store.logs;
}
