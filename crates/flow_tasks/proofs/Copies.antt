-- A copy of a result is the same result.
use Rattle.std.proofs.Common.{◌≡◌, ◌∙◌, ap, sym, rules}
use Rattle.std.specs.List.{each_same}
use Rattle.dura_value.specs.declared.data.Scalar.TheVariants as scalars
use Rattle.dura_value.specs.declared.data.Value.TheVariants as values
use Rattle.dura_value.specs.declared.outcome.Outcome.{Outcome}
use Rattle.dura_value.specs.declared.outcome.Outcome.TheVariants as outcomes
use Rattle.dura_value.specs.contracts.data.ScalarClone.TheImpl as scalar_clone
use Rattle.dura_value.specs.contracts.data.ValueClone.TheImpl as value_clone
use Rattle.dura_value.specs.contracts.outcome.OutcomeClone.TheImpl as outcome_clone
use Rattle.dura_value.proofs.Copies.{same_value}

pub same_outcome : (a b : Outcome) → outcome_clone.by_variants a b → b ≡ a
same_outcome (outcomes.Done a) (outcomes.Done b) h = ap outcomes.Done (same_value a b h)
same_outcome (outcomes.Failed a) (outcomes.Failed b) h = ap outcomes.Failed (sym h.3 ∙ each_same h.0.bytes.items h.1.bytes.items h.4.0 ∙ h.2)
same_outcome a b h = search rules
