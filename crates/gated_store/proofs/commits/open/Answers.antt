use Rattle.std.proofs.Common.{◌∙◌, ap, Err}
use Rattle.gated_store.proofs.Whole.{unrefused}
use Rattle.gated_store.specs.declared.refusal.GateRefusal.{GateRefusal}
use Rattle.gated_store.proofs.commits.open.Goals as goal

pub unreachable-requires-in-Err-Unmet : goal.unreachable-requires-in-Err-Unmet
unreachable-requires-in-Err-Unmet g c =
    let unmet = c.gate.ensures.unmet _ (c.in-Err-Unmet.is ∙ ap (λ (r : GateRefusal). Err r) c.in-Err-Unmet.field-0-is) in
    unrefused _ _ _ _ _ (c.requires.none unmet.0 unmet.1) unmet.2
