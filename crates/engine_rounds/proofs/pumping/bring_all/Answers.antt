use Rattle.std.proofs.Common.{◌∙◌}
use Rattle.engine_rounds.proofs.pumping.bring_all.Goals as goal

pub parts-preserved : goal.parts-preserved
parts-preserved g c =
    let h = c.in_ok-bring_from.ensures in
    let inv = c.parts.invariant in
    record { many = h.many ∙ inv.many; joined = λ s all. h.joined s (inv.joined s all) }
