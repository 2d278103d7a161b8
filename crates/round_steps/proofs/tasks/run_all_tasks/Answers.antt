use Rattle.std.proofs.Common.{◌∙◌}
use Rattle.round_steps.proofs.tasks.run_all_tasks.Goals as goal

pub parts-preserved : goal.parts-preserved
parts-preserved g c =
    let h = c.in_ok-run_part.ensures in
    let inv = c.parts.invariant in
    record { many = h.many ∙ inv.many; joined = λ s all. h.joined s (inv.joined s all) }
