use Rattle.std.specs.Prelude.{◌≡◌, ◌≤◌}
use Rattle.engine_rounds.specs.Heard.{ByClock}
use Rattle.hub_store.specs.Changes.{trail_in}
use Rattle.round_steps.specs.Labels.{AreFew, IsCounted, settled_labels}
use Rattle.round_steps.specs.Serving.{GoesOn, IsServing}
use Rattle.engine_rounds.proofs.pumping.pump.Given as goal

-- the call goes on, the store heard of no moment that the clock hasn't told, and no label was settled, as far as all was seen
abbrev pub invariant-pushes : goal.invariant-pushes
invariant-pushes g l = record {
  goes : GoesOn g.M.Picked.rules l.fn.store l.store;
  serving : IsServing g.M.Picked.origin g.M.Picked.rules l.store l.cells.items l.course.port;
  ticks : g.C.Clock.clock_faults l.fn.clock ≤ g.C.Clock.clock_faults l.clock;
  latest : g.C.Clock.latest l.fn.clock ≤ g.C.Clock.latest l.clock;
  counted : IsCounted l.course.seen (trail_in l.store.logs);
  same : settled_labels (trail_in l.store.logs) ≡ settled_labels (trail_in l.fn.store.logs);
  by_clock : ByClock g.M.Picked.rules l.fn.pace.steps (g.C.Clock.given l.fn.clock) l.fn.store (g.C.Clock.given l.clock) l.store;
  fewer : AreFew g.M.Picked.rules l.fn.pace.steps (trail_in l.fn.store.logs) → AreFew g.M.Picked.rules l.fn.pace.steps (trail_in l.store.logs);
  heard : l.fn.store.logs.latest ≤ g.C.Clock.latest l.fn.clock → l.store.logs.latest ≤ g.C.Clock.latest l.clock;
}
