-- What is read or written by one step, and then by the steps behind it.
use Rattle.std.proofs.Common.{◌≡◌, ◌⊎◌, inl, inr, ℕ, ◌≤◌, ◌<◌, List, ◌++◌, true, false, Ok, Err, refl, ap, ◌∙◌, append_assoc, arith}
use Rattle.std.specs.Prelude.{Result, OnOk, nat_lt, nat_le, ◌&&◌}
use Rattle.std.specs.Borrow.{Bor}
use Rattle.std.specs.Result.{IsErr, IsErrAnd}
use Rattle.std.proofs.lemmas.Bool.Decides.{nat_tests}
use Rattle.std.proofs.lemmas.Result.{IfOk-from_err}
use Rattle.dura_value.specs.Reading.{◌>>=◌}
use Rattle.dura_codec.specs.declared.fields.FieldError.{FieldError}
use Rattle.dura_codec.specs.declared.fields.FieldError.TheVariants.{Bad, Memory}
use Rattle.dura_codec.specs.Fields.{Read, Stops, Takes, StaysWithin}

-- where the first step stops, both do
pub stops : {X Y : Type 0} (e : FieldError) (read : Read X) (next : X × List ℕ → Read Y) → Stops e read → Stops e (read >>= next)
stops Memory read next h = tt
stops (Bad left) read next h = rw h refl

-- the exit of a `?` at the first step
pub leaves : {X Y Z : Type 0} (view : X → Y) (result : Result (X × Bor (List ℕ)) FieldError) (e : FieldError) (read : Read Z) (next : Z × List ℕ → Read Y) → IsErrAnd result (λ y. y ≡ e) → Stops e read → Takes view result (read >>= next)
leaves view (Ok x) e read next h s = absurd h
leaves view (Err y) e read next h s = rw h (stops e read next s)

-- and no more is left than there was
pub leaves_within : {X : Type 0} (bytes : List ℕ) (result : Result (X × Bor (List ℕ)) FieldError) (e : FieldError) → IsErrAnd result (λ y. y ≡ e) → StaysWithin {X = X} bytes (Err e) → StaysWithin bytes result
leaves_within bytes (Ok x) e h within = absurd h
leaves_within bytes (Err y) e h within = rw h within

-- the exit of a `?` while writing
pub unwritten : {T E : Type 0} (P : Type 0) (result : Result T E) → IsErr result → OnOk result P
unwritten P result is = IfOk-from_err result (λ _. P) is

-- what was written before a last step, and by it
pub written : {T E : Type 0} (result : Result T E) (old front middle back new : List ℕ) → middle ≡ old ++ front → OnOk result (new ≡ middle ++ back) → OnOk result (new ≡ old ++ (front ++ back))
written (Ok x) old front middle back new is h = h ∙ ap (λ (l : List ℕ). l ++ back) is ∙ append_assoc old front back
written (Err e) old front middle back new is h = tt

pub at_most : (n most : ℕ) → n ≤ most → nat_le n most ≡ true
at_most n most h = grind (arith, nat_tests)

pub above : (n most : ℕ) → most < n → nat_le n most ≡ false
above n most h = grind (arith, nat_tests)

pub between : (n most : ℕ) → ¬ (n ≡ 0) → n ≤ most → (nat_lt 0 n && nat_le n most) ≡ true
between n most some h = grind (arith, nat_tests)

pub outside : (n most : ℕ) → (n ≡ 0) ⊎ (¬ (n ≡ 0) × most < n) → (nat_lt 0 n && nat_le n most) ≡ false
outside n most (inl none) = rw none refl
outside n most (inr more) = grind (arith, nat_tests)
