-- Lists to which one more was pushed, and their elements.
use Rattle.std.proofs.Common.{◌≡◌, ℕ, zero, suc, ◌+◌, ◌<◌, Bool, false, List, [], ◌∷◌, ◌++◌, length, Some, Result, Ok, Err, refl, subst, arith, length-append}
use Rattle.std.specs.Prelude.{OnOk}
use Rattle.std.specs.List.{slice_get}
use Rattle.std.specs.Result.{is_err}

-- what is said of each element is said of one more
pub pushed : {X : Type 0} (P : ℕ → X → Type 0) (xs : List X) (new : X) → ((place : ℕ) (x : X) → slice_get xs place ≡ Some x → P place x) → P (length xs) new → (place : ℕ) (x : X) → slice_get (xs ++ new ∷ []) place ≡ Some x → P place x
pushed P [] new all here zero x is = subst (P 0) (cc is) here
pushed P [] new all here (suc place) x is = absurd (cc is)
pushed P (y ∷ xs) new all here zero x is = all 0 x is
pushed P (y ∷ xs) new all here (suc place) x is = pushed (λ n. P (suc n)) xs new (λ later z there. all (suc later) z there) here place x is

-- the same of two lists that are pushed to at once
pub pushed_both : {X Y : Type 0} (P : ℕ → X → Y → Type 0) (xs : List X) (ys : List Y) (new : X) (also : Y) → length xs ≡ length ys → ((place : ℕ) (x : X) (y : Y) → slice_get xs place ≡ Some x → slice_get ys place ≡ Some y → P place x y)
    → P (length xs) new also → (place : ℕ) (x : X) (y : Y) → slice_get (xs ++ new ∷ []) place ≡ Some x → slice_get (ys ++ also ∷ []) place ≡ Some y → P place x y
pushed_both P [] [] new also same all here zero x y is there = subst (λ z. P 0 z y) (cc is) (subst (P 0 new) (cc there) here)
pushed_both P [] [] new also same all here (suc place) x y is there = absurd (cc is)
pushed_both P [] (b ∷ ys) new also same all here place x y is there = absurd (cc same)
pushed_both P (a ∷ xs) [] new also same all here place x y is there = absurd (cc same)
pushed_both P (a ∷ xs) (b ∷ ys) new also same all here zero x y is there = all 0 x y is there
pushed_both P (a ∷ xs) (b ∷ ys) new also same all here (suc place) x y is there =
    pushed_both (λ n. P (suc n)) xs ys new also (omega (arith, same)) (λ later z w at too. all (suc later) z w at too) here place x y is there

-- what holds where a call succeeded that did
pub on_ok : {T E : Type 0} {P : Type 0} (r : Result T E) {told : Bool} → told ≡ false → told ≡ is_err r → OnOk r P → P
on_ok (Ok x) fell is holds = holds
on_ok (Err e) fell is holds = absurd (cc (fell, is))

-- there is an element at each place
pub element : {X : Type 0} (xs : List X) (place : ℕ) → place < length xs → (x : X) × (slice_get xs place ≡ Some x)
element [] place below = absurd (omega (arith, below))
element (x ∷ xs) zero below = (x, refl)
element (x ∷ xs) (suc place) below = element xs place (omega (arith, below))

-- an element stands where those before it end
pub stands_behind : {X : Type 0} (front : List X) (one : X) (more : List X) → slice_get (front ++ one ∷ more) (length front) ≡ Some one
stands_behind [] one more = refl
stands_behind (x ∷ front) one more = stands_behind front one more

pub one_longer : {X : Type 0} (xs : List X) (new : X) → length (xs ++ new ∷ []) ≡ length xs + 1
one_longer xs new = length-append xs (new ∷ [])
