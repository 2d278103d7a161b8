use Rattle.std.proofs.Common.{◌∙◌}
use Rattle.round_steps.proofs.rounds.take_in_all.Goals as goal

pub parts-preserved : goal.parts-preserved
parts-preserved g c =
    let h = c.in_ok-take_in_part.ensures in
    let inv = c.parts.invariant in
    record { many = h.many ∙ inv.many; joined = λ s all. h.joined s (inv.joined s all); port = h.port ∙ inv.port; seen = h.seen ∙ inv.seen }
