-- Digits are read one after another, and the number only grows.
use Rattle.std.proofs.Common.{◌≡◌, ℕ, ◌+◌, ◌-◌, ◌*◌, ◌<◌, ◌≤◌, List, [], ◌∷◌, length, drop, get_or, false, None, refl, sym, ◌∙◌, arith, add-one}
use Rattle.std.specs.Prelude.{fold, nat_le}
use Rattle.std.proofs.Math.Seq.{drop-cons}
use Rattle.std.proofs.lemmas.Bool.Decides.{nat_tests}
use Rattle.command_words.specs.Numbers.{with_digit, decimal}
use Rattle.dura_value.specs.Optional.{where_it}

grows : (bs : List ℕ) (n : ℕ) → n ≤ fold with_digit n bs
grows [] n = omega arith
grows (b ∷ bs) n = let more = grows bs (with_digit n b) in omega (arith, more)

-- a digit was read
pub goes_on : (bs : List ℕ) (i n next : ℕ) → i < length bs → fold with_digit n (drop i bs) ≡ decimal bs → next ≡ n * 10 + (get_or bs i 0 - 48) → fold with_digit next (drop (i + 1) bs) ≡ decimal bs
goes_on bs i n next lt before is = rw is (sym (rw (add-one, drop-cons bs i 0 lt) refl) ∙ before)

-- the number is too great already
pub too_great : (bs : List ℕ) (i n next most : ℕ) → i < length bs → fold with_digit n (drop i bs) ≡ decimal bs → next ≡ n * 10 + (get_or bs i 0 - 48) → most < next → where_it (λ v. nat_le v most) (decimal bs) ≡ None
too_great bs i n next most lt before is above =
    let whole = goes_on bs i n next lt before is in
    let more = grows (drop (i + 1) bs) next in
    let past : most < decimal bs = omega (arith, more, whole) in
    let fails : nat_le (decimal bs) most ≡ false = grind (arith, nat_tests) in
    rw fails refl
