-- Calls that are made again after a signal.
use Rattle.std.proofs.Common.{◌≡◌, ◌≤◌, ◌+◌, ℕ, Bool, true, false, List, ◌∷◌, length, take, Result, Ok, Err, refl, sym, ◌∙◌, ap, arith}
use Rattle.std.specs.Prelude.{OnOk, IfOk, MatchResult}
use Rattle.site_calls.specs.Events.{Event, Unseen, Standing, put, lost, replay, IsHonest}
use Rattle.site_calls.specs.Failures.{FailsByCall, count_of}
use Rattle.site_calls.specs.Runs.{StaysHonest, StandsStill, IsNoted, IsWriting}
use Rattle.site_calls.proofs.Events.{honest_more}
use Rattle.site_calls.proofs.Failures.{one_more, one_failed}
use Rattle.site_calls.proofs.WriteInParts.{writing_put, writing_lost}

-- what held of a call that a signal cut off is what holds of an error
pub was_cut_off : {T E : Type 0} (cut : Bool) (P : T → Type 0) (Q : Type 0) (answer : Result T E) → cut ≡ true → OnOk answer (cut ≡ false) → MatchResult answer P (λ _. Q) → Q
was_cut_off cut P Q (Ok value) is whole holds = let wrong : true ≡ false = sym is ∙ whole in cc
was_cut_off cut P Q (Err error) is whole holds = holds

-- one call more, with its answer
module _ {T E : Type 0} (event : T → Event) (failure : Event) (old mid new : List Event) (answer : Result T E) (noted : MatchResult answer (λ value. new ≡ event value ∷ mid) (λ _. new ≡ failure ∷ mid)) where
  pub told_behind : StaysHonest old mid → StaysHonest old new
  told_behind told unseen honest = told unseen (elim answer as (λ a. MatchResult a (λ value. new ≡ event value ∷ mid) (λ _. new ≡ failure ∷ mid) → IsHonest unseen mid) [
    | Ok value ↦ λ is. honest_more unseen is honest
    | Err error ↦ λ is. honest_more unseen is honest
  ] noted)

  pub noted_behind : ((unseen : Unseen) → replay unseen (failure ∷ mid) ≡ replay unseen mid) → StandsStill old mid
      → MatchResult answer (λ value. IsNoted (event value) old new) (λ _. StandsStill old new)
  noted_behind nothing still = elim answer as (λ a. MatchResult a (λ value. new ≡ event value ∷ mid) (λ _. new ≡ failure ∷ mid) → MatchResult a (λ value. IsNoted (event value) old new) (λ _. StandsStill old new)) [
    | Ok value ↦ λ is. record { before = mid; newest = is; still = still }
    | Err error ↦ λ is unseen. ap (replay unseen) is ∙ nothing unseen ∙ still unseen
  ] noted

  pub kept_behind : ((is_such : Event → Bool) → count_of is_such old ≤ count_of is_such mid) → (is_such : Event → Bool) → count_of is_such old ≤ count_of is_such new
  kept_behind kept is_such = elim answer as (λ a. MatchResult a (λ value. new ≡ event value ∷ mid) (λ _. new ≡ failure ∷ mid) → count_of is_such old ≤ count_of is_such new) [
    | Ok value ↦ λ is. omega (arith, one_more _ mid new is is_such, kept is_such)
    | Err error ↦ λ is. omega (arith, one_more _ mid new is is_such, kept is_such)
  ] noted

  pub fails_behind : (is_failure : Event → Bool) → is_failure failure ≡ true → ((is_such : Event → Bool) → count_of is_such old ≤ count_of is_such mid) → FailsByCall is_failure old new answer
  fails_behind is_failure failed kept = elim answer as (λ a. MatchResult a (λ value. new ≡ event value ∷ mid) (λ _. new ≡ failure ∷ mid) → FailsByCall is_failure old new a) [
    | Ok value ↦ λ is. record { kept = kept_behind kept; failed = tt }
    | Err error ↦ λ is. record { kept = kept_behind kept; failed = omega (arith, one_failed failure mid new is_failure is failed, kept is_failure) }
  ] noted

-- a write, one call more
pub writing_behind : {E : Type 0} (file at done : ℕ) (bytes : List ℕ) (unseen : Unseen) (start : Standing) (mid new : List Event) (answer : Result ℕ E) → done ≤ length bytes
    → IfOk answer (λ count. done + count ≤ length bytes)
    → MatchResult answer (λ count. new ≡ put (take (done + count) bytes) ∷ mid) (λ _. new ≡ lost (take done bytes) ∷ mid)
    → IsWriting file at bytes done start (replay unseen mid)
    → MatchResult answer (λ count. IsWriting file at bytes (done + count) start (replay unseen new)) (λ _. IsWriting file at bytes done start (replay unseen new))
writing_behind file at done bytes unseen start mid new (Ok count) within fits is writing = writing_put file at done count (done + count) bytes unseen start mid new refl fits is writing
writing_behind file at done bytes unseen start mid new (Err error) within fits is writing = writing_lost file at done done bytes unseen start mid new refl within is writing
