-- A program that starts on what a crash left begins on it.
use Rattle.std.proofs.Common.{◌≡◌, ◌≤◌, inl, inr, ℕ, zero, suc, List, [], ◌∷◌, length, sym, ◌∙◌, subst}
use Rattle.std.proofs.lemmas.Bool.{cases_eq, cases_lt}
use Rattle.join_laws.specs.Joined.{BeginsOn}
use Rattle.site_calls.specs.Events.{held_below, start_of}
use Rattle.site_calls.proofs.FirstSteps.{held, held_none, changes_one_more}
use Rattle.site_model.specs.History.{on, wrote, synced, Step, changes_of, content_of, Leaves, IsImage, IsKept}
use Rattle.site_model.proofs.Paths.{own_change}

-- all of a file is on the disk at the start
kept_below : (n : ℕ) (files : ℕ → List ℕ) (file : ℕ) → IsKept (changes_of file (held_below n files))
unfolding held_below
kept_below zero files file = λ image left. left
kept_below (suc n) files file = elim (cases_eq file n) [
  | inl own ↦ subst (λ (f : ℕ). IsKept (changes_of f (held_below (suc n) files))) (sym own)
      (subst IsKept (sym (own_change n synced (on n (wrote 0 (length (files n)) (files n)) ∷ held_below n files))) (λ image left. left))
  | inr apart ↦ subst IsKept (sym (changes_one_more n files file apart)) (kept_below n files file)
]

kept_at_first : (files : ℕ → List ℕ) (file : ℕ) → IsKept (changes_of file (start_of files))
unfolding start_of
kept_at_first files file = kept_below 144 files file

pub program_begins : (before : List Step) (files : ℕ → List ℕ) → IsImage before files → ((file : ℕ) → 144 ≤ file → files file ≡ []) → BeginsOn before (start_of files)
program_begins before files image none = record {
  reads = record { each = λ file. subst (Leaves (changes_of file before)) (sym (as_held file)) (image.each file) };
  leaves = λ left is. record { each = λ file. subst (Leaves (changes_of file before)) (sym (kept_at_first files file (left file) (is.each file) ∙ as_held file)) (image.each file) };
}
  where
    as_held : (file : ℕ) → content_of file (start_of files) ≡ files file
    as_held file = elim (cases_lt file 144) [ inl below ↦ held files file below | inr above ↦ held_none files file above ∙ sym (none file above) ]
