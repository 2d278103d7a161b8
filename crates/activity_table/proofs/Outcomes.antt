-- What a shipped activity gives is what it may give.
use Rattle.std.proofs.Common.{◌≡◌, ℕ, ℤ, pos, negsuc, List, [], ◌∷◌, Bool, true, false, codes, refl, arith, if◌then◌else◌}
use Rattle.std.specs.Str.{bytes_eq}
use Rattle.std.proofs.lemmas.Slice.Eq.{bytes_eq-Decides}
use Rattle.dura_value.specs.declared.data.Scalar.{Scalar}
use Rattle.dura_value.specs.declared.data.Scalar.TheVariants as scalars
use Rattle.dura_value.specs.declared.data.Value.{Value}
use Rattle.dura_value.specs.declared.data.Value.TheVariants as values
use Rattle.dura_value.specs.declared.outcome.Outcome.{Outcome}
use Rattle.dura_value.specs.declared.outcome.Outcome.TheVariants.{Done, Failed}
use Rattle.dura_value.specs.Values.{int_eq, scalar_eq, scalars_eq, value_eq}
use Rattle.activity_table.specs.Table.{outcome_eq, is_drawn, drawn, given, shipped, may}

bytes_same : (xs : List ℕ) → bytes_eq xs xs ≡ true
bytes_same xs = (bytes_eq-Decides xs xs).1 refl

int_same : (n : ℤ) → int_eq n n ≡ true
int_same (pos n) = grind arith
int_same (negsuc n) = grind arith

scalar_same : (s : Scalar) → scalar_eq s s ≡ true
scalar_same scalars.Null = refl
scalar_same scalars.False = refl
scalar_same scalars.True = refl
scalar_same (scalars.Int n) = int_same n
scalar_same (scalars.Text text) = bytes_same text

scalars_same : (ss : List Scalar) → scalars_eq ss ss ≡ true
scalars_same [] = refl
scalars_same (s ∷ ss) = grind (arith, scalar_same s, scalars_same ss)

value_same : (v : Value) → value_eq v v ≡ true
value_same values.Null = refl
value_same values.False = refl
value_same values.True = refl
value_same (values.Int n) = int_same n
value_same (values.Text text) = bytes_same text
value_same (values.List parts) = scalars_same parts

outcome_same : (o : Outcome) → outcome_eq o o ≡ true
outcome_same (Done value) = value_same value
outcome_same (Failed text) = bytes_same text

drawn_fits : (word : ℕ) → is_drawn (drawn word) ≡ true
drawn_fits word = grind arith

may_by : (draws : Bool) (word : ℕ) (o : Outcome) → (if draws then is_drawn (if draws then drawn word else o) else outcome_eq (if draws then drawn word else o) o) ≡ true
may_by true word o = drawn_fits word
may_by false word o = outcome_same o

pub shipped_may : (name : List ℕ) (argument : Value) (word : ℕ) → may name argument (shipped name argument word) ≡ true
shipped_may name argument word = may_by (bytes_eq name (codes "draw")) word (given name argument)
