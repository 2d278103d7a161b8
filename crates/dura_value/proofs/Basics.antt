-- What an answer says of what it was made from: options, results, tests and places.
use Rattle.std.proofs.Common.{◌≡◌, ◌==◌, ◌⊎◌, inl, inr, ℕ, ◌+◌, ◌≤◌, Bool, true, false, cond, if◌then◌else◌, List, [], ◌∷◌, Option, Some, None, Result, Ok, Err, refl, arith}
use Rattle.std.specs.List.{position_from}
use Rattle.std.specs.Option.{option_and_then}
use Rattle.dura_value.specs.Reading.{◌>>=◌}

pub some_same : {X : Type 0} {x y : X} → Some x ≡ Some y → x ≡ y
some_same is = cc

-- an option that was made from another
pub both_some : {X Y : Type 0} (o : Option X) (f : X → Option Y) (y : Y) → option_and_then f o ≡ Some y → (x : X) × (o ≡ Some x) × (f x ≡ Some y)
both_some None f y is = absurd (cc is)
both_some (Some x) f y is = (x, refl, is)

-- what was read behind something else
pub both_ok : {X Y : Type 0} (r : Result X ℕ) (f : X → Result Y ℕ) (y : Y) → (r >>= f) ≡ Ok y → (x : X) × (r ≡ Ok x) × (f x ≡ Ok y)
both_ok (Ok x) f y is = (x, refl, is)
both_ok (Err offset) f y is = absurd (cc is)

-- what a test let through
pub passed_ok : {X : Type 0} (test : Bool) (r : Result X ℕ) (offset : ℕ) (x : X) → (if test then r else Err offset) ≡ Ok x → (test ≡ true) × (r ≡ Ok x)
passed_ok true r offset x is = (refl, is)
passed_ok false r offset x is = absurd (cc is)

pub true_or_false : (b : Bool) → (b ≡ true) ⊎ (b ≡ false)
true_or_false true = inl refl
true_or_false false = inr refl

pub number_self : (n : ℕ) → (n == n) ≡ true
number_self n = grind arith

-- the first place at which a test passes is no earlier than where the list starts
position_by : (k i : ℕ) (b : Bool) (o : Option ℕ) → (o ≡ Some i → k + 1 ≤ i) → cond b (Some k) o ≡ Some i → k ≤ i
position_by k i true o low is = let same : k ≡ i = cc in omega arith
position_by k i false o low is = let above : k + 1 ≤ i = low is in omega arith

pub position_low : {X : Type 0} (p : X → Bool) (k i : ℕ) (xs : List X) → position_from p k xs ≡ Some i → k ≤ i
position_low p k i [] at = absurd (cc at)
position_low p k i (x ∷ xs) at = position_by k i (p x) (position_from p (k + 1) xs) (position_low p (k + 1) i xs) at
