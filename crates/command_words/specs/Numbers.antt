-- Numbers in words: decimal digits, without a sign or a leading zero.
use Rattle.std.specs.Prelude.{ℕ, ◌+◌, ◌-◌, ◌*◌, ◌==◌, ◌&&◌, ◌||◌, List, [], ◌∷◌, length, fold, not, Bool, false, nat_le, Option}
use Rattle.std.specs.Char.{is_ascii_digit}
use Rattle.std.specs.List.{list_all}
use Rattle.dura_value.specs.Optional.{guard, where_it, ◌>>=◌}

-- 0 alone, or digits that don't begin with 0
abbrev pub is_decimal : List ℕ → Bool
is_decimal [] = false
is_decimal (first ∷ rest) = list_all is_ascii_digit (first ∷ rest) && (length rest == 0 || not (first == 48))

abbrev pub with_digit : ℕ → ℕ → ℕ
with_digit n digit = n * 10 + (digit - 48)

-- the number that digits are
abbrev pub decimal : List ℕ → ℕ
decimal digits = fold with_digit 0 digits

-- the number that a text is, from the least to the most
abbrev pub number_in : ℕ → ℕ → List ℕ → Option ℕ
number_in least most text = guard (is_decimal text) (where_it (λ n. nat_le n most) (decimal text) >>= where_it (λ n. nat_le least n))
