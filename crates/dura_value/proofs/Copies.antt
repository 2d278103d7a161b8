-- A copy is the same value.
use Rattle.std.proofs.Common.{◌≡◌, ◌∙◌, ap, sym, rules}
use Rattle.std.specs.List.{each_same}
use Rattle.std.proofs.lemmas.List.Elements.{same_from_all_zip}
use Rattle.dura_value.specs.declared.data.Scalar.{Scalar}
use Rattle.dura_value.specs.declared.data.Scalar.TheVariants as scalars
use Rattle.dura_value.specs.declared.data.Value.{Value}
use Rattle.dura_value.specs.declared.data.Value.TheVariants as values
use Rattle.dura_value.specs.contracts.data.ScalarClone.TheImpl as scalar_clone
use Rattle.dura_value.specs.contracts.data.ValueClone.TheImpl as value_clone

pub same_scalar : (a b : Scalar) → scalar_clone.by_variants a b → b ≡ a
same_scalar (scalars.Text a) (scalars.Text b) h = ap scalars.Text (sym h.3 ∙ each_same h.0.bytes.items h.1.bytes.items h.4.0 ∙ h.2)
same_scalar a b h = search rules

pub same_value : (a b : Value) → value_clone.by_variants a b → b ≡ a
same_value (values.Text a) (values.Text b) h = ap values.Text (sym h.3 ∙ each_same h.0.bytes.items h.1.bytes.items h.4.0 ∙ h.2)
same_value (values.List a) (values.List b) h = ap values.List (sym h.3 ∙ same_from_all_zip _ h.0.items.items h.1.items.items h.4.0 same_scalar ∙ h.2)
same_value a b h = search rules
