-- A name is ASCII.
use Rattle.std.proofs.Common.{◌≡◌, ℕ, ◌<◌, ◌&&◌, true, List, [], ◌∷◌, length, arith}
use Rattle.std.specs.Char.{is_ascii_alphabetic}
use Rattle.std.specs.List.{list_all}
use Rattle.std.specs.Prelude.{nat_le}
use Rattle.std.specs.Str.{IsUtf8, IsAscii}
use Rattle.std.proofs.lemmas.Bool.{and_parts}
use Rattle.std.proofs.lemmas.Bool.Decides.{nat_tests}
use Rattle.std.proofs.lemmas.Str.{IsUtf8-from_ascii}
use Rattle.std.proofs.lemmas.Str.Ascii.{IsAscii-nil, IsAscii-cons}
use Rattle.dura_value.specs.Limits.{most_word_bytes}
use Rattle.dura_value.specs.Names.{is_name, goes_on_name}

first_below : (b : ℕ) → is_ascii_alphabetic b ≡ true → b < 128
first_below b h = grind (arith, nat_tests)

next_below : (b : ℕ) → goes_on_name b ≡ true → b < 128
next_below b h = grind (arith, nat_tests)

rest_ascii : (bs : List ℕ) → list_all goes_on_name bs ≡ true → IsAscii bs
rest_ascii [] h = IsAscii-nil
rest_ascii (b ∷ bs) h = let parts = and_parts (goes_on_name b) (list_all goes_on_name bs) h in IsAscii-cons b bs (next_below b parts.0) (rest_ascii bs parts.1)

pub name_utf8 : (name : List ℕ) → is_name name ≡ true → IsUtf8 name
name_utf8 [] h = absurd (cc h)
name_utf8 (b ∷ bs) h =
    let named = and_parts (nat_le (length (b ∷ bs)) most_word_bytes) (is_ascii_alphabetic b && list_all goes_on_name bs) h in
    let parts = and_parts (is_ascii_alphabetic b) (list_all goes_on_name bs) named.1 in
    IsUtf8-from_ascii (b ∷ bs) (IsAscii-cons b bs (first_below b parts.0) (rest_ascii bs parts.1))
