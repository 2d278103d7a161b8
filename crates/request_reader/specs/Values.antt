-- The values that JSON stands for: null, truth values, integers of 64 bits, texts, and lists of these.
use Rattle.std.specs.Prelude.{ℕ, ◌&&◌, List, [], ◌∷◌, length, Bool, true, false, nat_le, Option, Some, None, option_map}
use Rattle.std.specs.Option.{option_map_or}
use Rattle.std.specs.Str.{is_utf8}
use Rattle.serde_json.specs.Data.{Data, null, boolean, number, string, array, object, Items, no_items, item}
use Rattle.serde_json.specs.Find.{get, as_array, as_i64}
use Rattle.dura_value.specs.declared.data.Scalar.{Scalar}
use Rattle.dura_value.specs.declared.data.Scalar.TheVariants as scalars
use Rattle.dura_value.specs.declared.data.Value.{Value}
use Rattle.dura_value.specs.declared.data.Value.TheVariants as values
use Rattle.dura_value.specs.Values.{value_of, scalars_size}
use Rattle.dura_value.specs.Limits.{most_text_bytes, most_scalars, most_scalars_bytes}
use Rattle.request_reader.specs.Json.{count_items}
use Rattle.dura_value.specs.Optional.{◌>>=◌, guard, where_it}

-- UTF-8 of not too many bytes
abbrev pub is_text : List ℕ → Bool
is_text bytes = is_utf8 bytes && nat_le (length bytes) most_text_bytes

-- a number is an integer of 64 bits
abbrev pub scalar_in : Data → Option Scalar
scalar_in null = Some scalars.Null
scalar_in (boolean false) = Some scalars.False
scalar_in (boolean true) = Some scalars.True
scalar_in (number n) = option_map scalars.Int (as_i64 n)
scalar_in (string bytes) = option_map scalars.Text (where_it is_text bytes)
scalar_in (array _) = None
scalar_in (object _) = None

abbrev pub scalars_in : Items → Option (List Scalar)
scalars_in no_items = Some []
scalars_in (item d ds) = scalar_in d >>= λ s. scalars_in ds >>= λ ss. Some (s ∷ ss)

-- a list of not too many scalars, which isn't too long
abbrev pub list_in : Items → Option (List Scalar)
list_in parts = guard (nat_le (count_items parts) most_scalars) (scalars_in parts >>= where_it (λ ss. nat_le (scalars_size ss) most_scalars_bytes))

-- an array is a list; all else stands for a scalar
abbrev pub value_in : Data → Option Value
value_in d = option_map_or (λ parts. option_map values.List (list_in parts)) (as_array d) (option_map value_of (scalar_in d))

-- the value under this key, null where there is none
abbrev pub value_at : List ℕ → Data → Option Value
value_at key d = option_map_or value_in (get key d) (Some values.Null)
