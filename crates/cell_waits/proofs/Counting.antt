-- One more or less of a number.
use Rattle.std.proofs.Common.{◌≡◌, ◌∙◌, ◌+◌, ◌-◌, ◌==◌, ℕ, Bool, true, false, Option, Some, cond, refl, ap, sym, add-zero, eqb-true, arith}
use Rattle.std.specs.Ordering.{nat_cmp}
use Rattle.std.specs.BTreeMap.{BTreeMap, get, UpdatesBy}
use Rattle.std.specs.Cmp.{unsigned_ties}
use Rattle.cell_waits.specs.Keys.{counted, is_number}

counted_by : (b : Bool) (w was : Option ℕ) → counted (cond b w was) ≡ cond b (counted w) (counted was)
counted_by true w was = refl
counted_by false w was = refl

abbrev of_map : BTreeMap ℕ ℕ → ℕ → ℕ
of_map m q = counted (get nat_cmp m q)

changes : (m n : BTreeMap ℕ ℕ) (number : ℕ) (w : Option ℕ) → UpdatesBy nat_cmp (nat_cmp number) m n w → (q : ℕ) → of_map n q ≡ cond (number == q) (counted w) (of_map m q)
changes m n number w updates q = ap counted (updates.0 q ∙ ap (λ (b : Bool). cond b w (get nat_cmp m q)) (sym (unsigned_ties number q))) ∙ counted_by (number == q) w (get nat_cmp m q)

more_by : (b : Bool) (number q count : ℕ) (f : ℕ → ℕ) → (b ≡ true → number ≡ q) → count ≡ f number + 1 → cond b count (f q) ≡ f q + cond b 1 0
more_by true number q count f same is = is ∙ ap (λ (k : ℕ). f k + 1) (same refl)
more_by false number q count f same is = sym (add-zero (f q))

less_by : (b : Bool) (number q count : ℕ) (f : ℕ → ℕ) → (b ≡ true → number ≡ q) → count ≡ f number - 1 → cond b count (f q) ≡ f q - cond b 1 0
less_by true number q count f same is = is ∙ ap (λ (k : ℕ). f k - 1) (same refl)
less_by false number q count f same is = omega arith

pub one_more : (m n : BTreeMap ℕ ℕ) (number count : ℕ) → UpdatesBy nat_cmp (nat_cmp number) m n (Some count) → count ≡ counted (get nat_cmp m number) + 1
    → (q : ℕ) → counted (get nat_cmp n q) ≡ counted (get nat_cmp m q) + cond (is_number (Some number) q) 1 0
one_more m n number count updates is q = changes m n number (Some count) updates q ∙ more_by (number == q) number q count (of_map m) (eqb-true number q) is

pub one_less : (m n : BTreeMap ℕ ℕ) (number : ℕ) (w : Option ℕ) → UpdatesBy nat_cmp (nat_cmp number) m n w → counted w ≡ counted (get nat_cmp m number) - 1
    → (q : ℕ) → counted (get nat_cmp n q) ≡ counted (get nat_cmp m q) - cond (is_number (Some number) q) 1 0
one_less m n number w updates is q = changes m n number w updates q ∙ less_by (number == q) number q (counted w) (of_map m) (eqb-true number q) is

pub none_more : (count : ℕ) → count ≡ count + 0
none_more count = sym (add-zero count)

pub none_less : (count : ℕ) → count ≡ count - 0
none_less count = omega arith
