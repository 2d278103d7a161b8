-- The values and names that JSON stands for, or the first part that stands for none.
use Rattle.std.specs.Prelude.{ℕ, ◌+◌, ◌&&◌, List, [], ◌∷◌, length, Bool, true, false, nat_le, Result, Ok, option_map}
use Rattle.std.specs.Option.{option_map_or}
use Rattle.std.specs.Str.{is_utf8}
use Rattle.serde_json.specs.Data.{Data, null, boolean, number, string, array, object, Items, no_items, item}
use Rattle.serde_json.specs.Find.{as_array, as_i64}
use Rattle.dura_value.specs.declared.data.Scalar.{Scalar}
use Rattle.dura_value.specs.declared.data.Scalar.TheVariants as scalars
use Rattle.dura_value.specs.declared.data.Value.{Value}
use Rattle.dura_value.specs.declared.data.Value.TheVariants as values
use Rattle.dura_value.specs.Values.{value_of, scalars_size}
use Rattle.dura_value.specs.Limits.{most_text_bytes, most_scalars, most_scalars_bytes}
use Rattle.dura_value.specs.Names.{is_name}
use Rattle.flow_values.specs.Faults.{Path, to_part, at, misshapen, wanted, where_fits, ◌>>=◌}

-- UTF-8 of not too many bytes
abbrev pub is_text : List ℕ → Bool
is_text bytes = is_utf8 bytes && nat_le (length bytes) most_text_bytes

-- a number is an integer of 64 bits
abbrev pub scalar_in : Data → Result Scalar Path
scalar_in null = Ok scalars.Null
scalar_in (boolean false) = Ok scalars.False
scalar_in (boolean true) = Ok scalars.True
scalar_in (number n) = wanted (option_map scalars.Int (as_i64 n))
scalar_in (string bytes) = where_fits (is_text bytes) (Ok (scalars.Text bytes))
scalar_in (array _) = misshapen
scalar_in (object _) = misshapen

abbrev pub name_in : Data → Result (List ℕ) Path
name_in (string bytes) = where_fits (is_name bytes) (Ok bytes)
name_in _ = misshapen

-- how many parts they are
abbrev pub count : Items → ℕ
count no_items = 0
count (item d rest) = 1 + count rest

-- the scalars from this place on
abbrev pub scalars_from : ℕ → Items → Result (List Scalar) Path
scalars_from i no_items = Ok []
scalars_from i (item d ds) = at (to_part i) (scalar_in d) >>= λ s. scalars_from (i + 1) ds >>= λ ss. Ok (s ∷ ss)

-- an array's count is looked at first, then its parts, then their bytes
abbrev pub list_in : Items → Result (List Scalar) Path
list_in ds = where_fits (nat_le (count ds) most_scalars) (scalars_from 0 ds >>= λ ss. where_fits (nat_le (scalars_size ss) most_scalars_bytes) (Ok ss))

-- an array is a list; all else stands for a scalar
abbrev pub value_in : Data → Result Value Path
value_in d = option_map_or (λ ds. list_in ds >>= λ ss. Ok (values.List ss)) (as_array d) (scalar_in d >>= λ s. Ok (value_of s))
