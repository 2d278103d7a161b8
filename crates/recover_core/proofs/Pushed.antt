-- A list to which one more was pushed.
use Rattle.std.proofs.Common.{◌≡◌, ℕ, zero, suc, ◌<◌, Bool, false, cond, List, [], ◌∷◌, ◌++◌, length, Some, Result, Ok, Err, sym, subst, arith}
use Rattle.std.specs.List.{slice_get}
use Rattle.std.specs.Result.{is_ok, is_err}

-- what is said of each element is said of one more
pub pushed : {X : Type 0} (P : ℕ → X → Type 0) (xs : List X) (new : X) → ((place : ℕ) (x : X) → slice_get xs place ≡ Some x → P place x) → P (length xs) new → (place : ℕ) (x : X) → slice_get (xs ++ new ∷ []) place ≡ Some x → P place x
pushed P [] new all here zero x is = subst (P 0) (cc is) here
pushed P [] new all here (suc place) x is = absurd (cc is)
pushed P (y ∷ xs) new all here zero x is = all 0 x is
pushed P (y ∷ xs) new all here (suc place) x is = pushed (λ n. P (suc n)) xs new (λ later z there. all (suc later) z there) here place x is

-- where an element is found that stands before the new one, and the new one
pub get_front : {X : Type 0} (xs : List X) (new x : X) (i : ℕ) → i < length xs → slice_get (xs ++ new ∷ []) i ≡ Some x → slice_get xs i ≡ Some x
get_front [] new x i low is = absurd (omega (arith, low))
get_front (y ∷ xs) new x zero low is = is
get_front (y ∷ xs) new x (suc i) low is = get_front xs new x i (omega (arith, low)) is

pub get_new : {X : Type 0} (xs : List X) (new x : X) (i : ℕ) → i ≡ length xs → slice_get (xs ++ new ∷ []) i ≡ Some x → x ≡ new
get_new [] new x zero at is = sym (cc is)
get_new [] new x (suc i) at is = absurd (omega (arith, at))
get_new (y ∷ xs) new x zero at is = absurd (omega (arith, at))
get_new (y ∷ xs) new x (suc i) at is = get_new xs new x i (omega (arith, at)) is

-- of no element nothing is to be said
pub none_yet : {X : Type 0} (P : ℕ → X → Type 0) (xs : List X) → xs ≡ [] → (place : ℕ) (x : X) → slice_get xs place ≡ Some x → P place x
none_yet {X} P xs none = subst (λ (l : List X). (place : ℕ) (x : X) → slice_get l place ≡ Some x → P place x) (sym none) (λ place x is. absurd (cc is))

-- what a push left that succeeded
pub pushed_items : {T E X : Type 0} (r : Result T E) (some none new : List X) {told : Bool} → told ≡ false → told ≡ is_err r → new ≡ cond (is_ok r) some none → new ≡ some
pushed_items (Ok x) some none new fell is items = items
pushed_items (Err e) some none new fell is items = absurd (cc (fell, is))
