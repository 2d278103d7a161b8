-- What a call of a site leaves of what it tells.
use Rattle.std.proofs.Common.{◌≡◌, inl, inr, ℕ, ◌^◌, ◌<◌, ◌≤◌, List, length, take, Result, Ok, Err, sym, ap, subst, arith}
use Rattle.std.specs.Prelude.{IfOk, MatchResult}
use Rattle.std.proofs.lemmas.Result.{IfOk-at_ok, MatchResult-at_ok}
use Rattle.site_model.specs.History.{Step, content_of, AllInside}
use Rattle.site_model.specs.Calls.{Writes, Syncs, SyncsAll, Says}
use Rattle.site_model.proofs.Syncing.{length-syncing, inside_syncing}
use Rattle.site_calls.specs.Events.{Event, Unseen, replay, IsHonest, Tells}
use Rattle.site_calls.proofs.Inside.{inside_wrote, inside_synced, inside_said}
use Rattle.site_calls.proofs.PrintInParts.{length-saying}

-- what tells now told before, where no steps were lost
pub told_before : (unseen : Unseen) (old new : List Event) → (IsHonest unseen new → IsHonest unseen old) → length (replay unseen old).steps ≤ length (replay unseen new).steps
    → Tells unseen new → Tells unseen old
told_before unseen old new told longer tells = (told tells.0, omega (arith, tells.1))

pub told_still : (unseen : Unseen) (old new : List Event) → (IsHonest unseen new → IsHonest unseen old) → replay unseen new ≡ replay unseen old → Tells unseen new → Tells unseen old
told_still unseen old new told still tells = (told tells.0, subst (λ m. length m.steps < 2 ^ 64) still tells.1)

-- an answer goes through where only its error is changed
pub ok_through : {T D E F : Type 0} (first : Result T D) (second : Result T E) (third : Result T F) (P : T → Type 0) (Q : E → Type 0) → IfOk third (λ value. second ≡ Ok value)
    → MatchResult second (λ value. first ≡ Ok value) Q → IfOk first P → IfOk third P
ok_through first second (Ok value) P Q same placed is = IfOk-at_ok P (MatchResult-at_ok _ Q value same placed) is
ok_through first second (Err error) P Q same placed is = tt

module _ {T E : Type 0} (result : Result T E) (old new : List Step) where
  pub writes_longer : (file at : ℕ) (bytes : List ℕ) → Writes file at bytes old new result → length old ≤ length new
  writes_longer file at bytes writes = elim writes.either [ inl is ↦ omega (arith, ap length is) | inr same ↦ omega (arith, ap length same) ]

  pub syncs_longer : (file : ℕ) → Syncs file old new result → length old ≤ length new
  syncs_longer file syncs = elim syncs.either [ inl is ↦ omega (arith, ap length is) | inr same ↦ omega (arith, ap length same) ]

  pub syncs_all_longer : (files : List ℕ) → SyncsAll files old new result → length old ≤ length new
  syncs_all_longer files syncs = omega (arith, ap length syncs.steps, length-syncing (take syncs.count files) old)

  pub says_longer : (line : List ℕ) → Says line old new result → length old ≤ length new
  says_longer line says = omega (arith, ap length says.steps, length-saying (take says.count line) old)

  pub writes_inside_still : (file at : ℕ) (bytes : List ℕ) → Writes file at bytes old new result → at ≤ length (content_of file old) → AllInside old → AllInside new
  writes_inside_still file at bytes writes within before = elim writes.either [
    | inl is ↦ subst AllInside (sym is) (inside_wrote file at (length bytes) writes.now old within writes.no_longer before)
    | inr same ↦ subst AllInside (sym same) before
  ]

  pub syncs_inside_still : (file : ℕ) → Syncs file old new result → AllInside old → AllInside new
  syncs_inside_still file syncs before = elim syncs.either [
    | inl is ↦ subst AllInside (sym is) (inside_synced file old before)
    | inr same ↦ subst AllInside (sym same) before
  ]

  pub syncs_all_inside_still : (files : List ℕ) → SyncsAll files old new result → AllInside old → AllInside new
  syncs_all_inside_still files syncs before = subst AllInside (sym syncs.steps) (inside_syncing (take syncs.count files) old before)

  pub says_inside_still : (line : List ℕ) → Says line old new result → AllInside old → AllInside new
  says_inside_still line says before = subst AllInside (sym says.steps) (inside_said (take says.count line) old before)
