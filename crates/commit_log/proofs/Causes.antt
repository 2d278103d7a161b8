-- A call that failed or was done after one that was done; and answers that differ.
use Rattle.std.proofs.Common.{◌≡◌, ◌≤◌, ℕ, Result, Ok, Err, ◌∙◌, subst, arith}
use Rattle.commit_log.specs.declared.reader.FrameError.{FrameError}
use Rattle.commit_log.specs.declared.reader.FrameError.TheVariants.{Damaged, SiteFault}
use Rattle.site_model.specs.Calls.{HasCause, HasRisen}

pub failed_later : {T E : Type 0} (before middle now : ℕ) (fault : E) → middle ≡ before → middle ≤ now → HasRisen middle now → HasCause {T = T} {E = E} before now (Err fault)
failed_later before middle now fault same later risen = record { later = omega arith; same = tt; risen = subst (λ (n : ℕ). HasRisen n now) same risen }

pub done_later : {T E : Type 0} (before middle now : ℕ) (value : T) → middle ≡ before → now ≡ middle → HasCause {T = T} {E = E} before now (Ok value)
done_later before middle now value same still = record { later = omega arith; same = still ∙ same; risen = tt }

pub ok_apart : {T E : Type 0} (value : T) (error : E) → Ok value ≡ Err error → ⊥
ok_apart value error is = cc

pub damaged_fault : {T : Type 0} (result : Result T FrameError) (offset : ℕ) → result ≡ Err (Damaged offset) → result ≡ Err SiteFault → ⊥
damaged_fault result offset damaged fault = cc
