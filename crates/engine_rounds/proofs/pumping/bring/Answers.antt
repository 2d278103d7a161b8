use Rattle.std.proofs.Common.{◌∙◌}
use Rattle.engine_rounds.proofs.pumping.bring.Goals as goal

pub packets-preserved : goal.packets-preserved
packets-preserved g c =
    let h = c.in_ok-bring_one.ensures in
    let inv = c.packets.invariant in
    record { many = h.many ∙ inv.many; joined = λ s all. h.joined s (inv.joined s all) }
