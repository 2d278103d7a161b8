-- Nothing is under way where no device call was made; else what a log keeps is, where nothing is settled.
use Rattle.std.proofs.Common.{◌≡◌, ◌⊎◌, inl, inr, ℕ, List, [], ◌∷◌, ◌++◌, Option, Some, ◌∙◌, ap, sym, arith}
use Rattle.dura_value.specs.Items.{Entry}
use Rattle.hub_store.specs.Moments.{WroteGate}
use Rattle.many_examples.specs.RulesBy.{empty_log}
use Rattle.many_logs.specs.Placing.{of_partition, commits_at, frames_in_order}
use Rattle.many_logs.proofs.Frames.{of_frames}

-- without a write of a gate nothing is under way
pub nothing_under_way : (partition : ℕ) (before going : List Entry) → (going ≡ []) ⊎ WroteGate (empty_log partition) before [] → going ≡ []
nothing_under_way partition before going writing = elim writing [
  | inl nothing ↦ nothing
  | inr gate ↦ cc gate.last
]

pub no_frames : (going : ℕ → List Entry) → going 0 ≡ [] → going 1 ≡ [] → frames_in_order 2 going ≡ []
no_frames going first second =
    ap (λ (l : List Entry). commits_at 0 l ++ commits_at 1 (going 1)) first ∙ ap (λ (l : List Entry). commits_at 1 l) second

-- the one entry that the log of partition 1 keeps
pub kept_under_way : (going : ℕ → List Entry) (entry : Entry) (found : Option (List Entry)) → found ≡ Some (entry ∷ []) → found ≡ Some (of_partition 1 (frames_in_order 2 going)) → going 1 ≡ entry ∷ []
kept_under_way going entry found has keeps =
    let same : Some (entry ∷ []) ≡ Some (going 1) = sym has ∙ keeps ∙ ap (λ (l : List Entry). Some l) (of_frames 2 1 going (omega arith)) in
    cc same

pub one_frame : (going : ℕ → List Entry) (entry : Entry) → going 0 ≡ [] → going 1 ≡ entry ∷ [] → frames_in_order 2 going ≡ record { partition = 1; entry = entry } ∷ []
one_frame going entry first second =
    ap (λ (l : List Entry). commits_at 0 l ++ commits_at 1 (going 1)) first ∙ ap (λ (l : List Entry). commits_at 1 l) second
