-- When values are the same, and how long they are.
use Rattle.std.specs.Prelude.{ℕ, ◌+◌, length, ℤ, pos, negsuc, Bool, true, false, ◌&&◌, ◌==◌, List, [], ◌∷◌}
use Rattle.std.specs.Str.{bytes_eq}
use Rattle.dura_value.specs.declared.data.Scalar.{Scalar}
use Rattle.dura_value.specs.declared.data.Scalar.TheVariants as scalars
use Rattle.dura_value.specs.declared.data.Value.{Value}
use Rattle.dura_value.specs.declared.data.Value.TheVariants as values

abbrev pub int_eq : ℤ → ℤ → Bool
int_eq (pos a) (pos b) = a == b
int_eq (negsuc a) (negsuc b) = a == b
int_eq a b = false

abbrev pub scalar_eq : Scalar → Scalar → Bool
scalar_eq scalars.Null scalars.Null = true
scalar_eq scalars.False scalars.False = true
scalar_eq scalars.True scalars.True = true
scalar_eq (scalars.Int a) (scalars.Int b) = int_eq a b
scalar_eq (scalars.Text a) (scalars.Text b) = bytes_eq a b
scalar_eq a b = false

abbrev pub scalars_eq : List Scalar → List Scalar → Bool
scalars_eq [] [] = true
scalars_eq (one ∷ more) (other ∷ others) = scalar_eq one other && scalars_eq more others
scalars_eq a b = false

abbrev pub value_eq : Value → Value → Bool
value_eq values.Null values.Null = true
value_eq values.False values.False = true
value_eq values.True values.True = true
value_eq (values.Int a) (values.Int b) = int_eq a b
value_eq (values.Text a) (values.Text b) = bytes_eq a b
value_eq (values.List a) (values.List b) = scalars_eq a b
value_eq a b = false

-- a scalar is a value
abbrev pub value_of : Scalar → Value
value_of scalars.Null = values.Null
value_of scalars.False = values.False
value_of scalars.True = values.True
value_of (scalars.Int n) = values.Int n
value_of (scalars.Text text) = values.Text text

-- how many bytes a scalar takes where it is written
abbrev pub scalar_size : Scalar → ℕ
scalar_size scalars.Null = 1
scalar_size scalars.False = 1
scalar_size scalars.True = 1
scalar_size (scalars.Int n) = 9
scalar_size (scalars.Text text) = 3 + length text

abbrev pub scalars_size : List Scalar → ℕ
scalars_size [] = 0
scalars_size (one ∷ more) = scalar_size one + scalars_size more
