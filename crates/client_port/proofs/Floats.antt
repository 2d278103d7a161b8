-- No value has a float, and a list's JSON has that of each scalar.
use Rattle.std.proofs.Common.{◌≡◌, ℕ, List, [], ◌∷◌, false, refl}
use Rattle.std.specs.Prelude.{pos, negsuc}
use Rattle.serde_json.specs.Data.{Data}
use Rattle.serde_json.specs.Written.{compact_text, has_float, items_have_float}
use Rattle.dura_value.specs.declared.data.Scalar.{Scalar}
use Rattle.dura_value.specs.declared.data.Scalar.TheVariants as scalars
use Rattle.dura_value.specs.declared.data.Value.{Value}
use Rattle.dura_value.specs.declared.data.Value.TheVariants as values
use Rattle.client_port.specs.Lines.{scalar_data, items_data, value_data}

scalar_plain : (s : Scalar) → has_float (scalar_data s) ≡ false
scalar_plain scalars.Null = refl
scalar_plain scalars.False = refl
scalar_plain scalars.True = refl
scalar_plain (scalars.Int (pos n)) = refl
scalar_plain (scalars.Int (negsuc n)) = refl
scalar_plain (scalars.Text text) = refl

items_plain : (ss : List Scalar) → items_have_float (items_data ss) ≡ false
items_plain [] = refl
items_plain (s ∷ ss) = rw (scalar_plain s, items_plain ss) refl

pub plain : (v : Value) → has_float (value_data v) ≡ false
plain values.Null = refl
plain values.False = refl
plain values.True = refl
plain (values.Int (pos n)) = refl
plain (values.Int (negsuc n)) = refl
plain (values.Text text) = refl
plain (values.List ss) = items_plain ss

-- the text of a value's JSON
pub written : (d : Data) (v : Value) (bytes : List ℕ) → d ≡ value_data v → (has_float d ≡ false → bytes ≡ compact_text d) → bytes ≡ compact_text (value_data v)
written d v bytes is text = rw (← is) (text (rw is (plain v)))
