use Rattle.std.proofs.Common.{◌∙◌, List, ℕ, ap, sym}
use Rattle.flow_tasks.specs.Kept.{places_from}
use Rattle.flow_tasks.proofs.raised.KeptEvents.new.Goals as goal

pub invariant_of-result : goal.invariant_of-result
invariant_of-result c = λ name. ap (λ (f : List ℕ → List ℕ). f name) c.new-2.ensures ∙ sym (ap (places_from name 0) c.new.ensures.items)
