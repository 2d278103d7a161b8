-- Which bytes are a name, and which are a key.
use Rattle.std.specs.Prelude.{ℕ, ◌&&◌, ◌||◌, ◌==◌, List, [], ◌∷◌, length, Bool, false, nat_le}
use Rattle.std.specs.List.{list_all}
use Rattle.std.specs.Char.{is_ascii_alphabetic, is_ascii_alphanumeric}
use Rattle.dura_value.specs.Limits.{most_word_bytes}

-- a letter, a digit or `_`
abbrev pub goes_on_name : ℕ → Bool
goes_on_name byte = is_ascii_alphanumeric byte || byte == 95

-- a letter, a digit, `_`, `-` or `.`
abbrev pub stands_in_key : ℕ → Bool
stands_in_key byte = goes_on_name byte || byte == 45 || byte == 46

-- 1 to 64 bytes: a letter, then letters, digits and `_`
abbrev pub is_name : List ℕ → Bool
is_name [] = false
is_name (first ∷ rest) = nat_le (length (first ∷ rest)) most_word_bytes && (is_ascii_alphabetic first && list_all goes_on_name rest)

-- 1 to 64 bytes, each of which may stand in a key
abbrev pub is_key : List ℕ → Bool
is_key bytes = nat_le 1 (length bytes) && (nat_le (length bytes) most_word_bytes && list_all stands_in_key bytes)
