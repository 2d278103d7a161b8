use Rattle.std.proofs.Common.{◌∙◌}
use Rattle.round_steps.proofs.tasks.run_tasks.Goals as goal

pub returns-then-not-branch-clause-joined : goal.returns-then-not-branch-clause-joined
returns-then-not-branch-clause-joined g c = λ s all. c.in_ok-run_next.ensures.joined s (c.tasks.invariant.joined s all)

pub tasks-preserved : goal.tasks-preserved
tasks-preserved g c =
    let h = c.in_ok-run_next.ensures in
    record { many = h.many ∙ c.tasks.invariant.many; joined = λ s all. h.joined s (c.tasks.invariant.joined s all) }
