-- The history at the start.
use Rattle.std.proofs.Common.{◌≡◌, ◌≢◌, inl, inr, ℕ, zero, suc, ◌+◌, ◌*◌, ◌<◌, ◌≤◌, List, [], ◌∷◌, ◌++◌, length, sym, refl, ◌∙◌, ap, arith}
use Rattle.std.proofs.lemmas.Bool.{cases_eq}
use Rattle.std.proofs.lemmas.List.{append-nil, drop_all}
use Rattle.site_model.specs.History.{Change, on, wrote, synced, put, reads, changes_of, content_of, AllInside}
use Rattle.site_model.proofs.Paths.{own_change, other_change}
use Rattle.site_calls.specs.Events.{held_below, start_of}
use Rattle.site_calls.proofs.Inside.{inside_wrote, inside_synced}

length-held_below : (n : ℕ) (files : ℕ → List ℕ) → length (held_below n files) ≡ 2 * n
unfolding held_below
length-held_below zero files = refl
length-held_below (suc n) files = omega (arith, length-held_below n files)

pub length-start_of : (files : ℕ → List ℕ) → length (start_of files) ≡ 288
unfolding start_of
length-start_of files = length-held_below 144 files

inside_held_below : (n : ℕ) (files : ℕ → List ℕ) → AllInside (held_below n files)
unfolding held_below
inside_held_below zero files file = refl
inside_held_below (suc n) files file =
    inside_synced n (on n (wrote 0 (length (files n)) (files n)) ∷ held_below n files)
    (inside_wrote n 0 (length (files n)) (files n) (held_below n files) (omega arith) (omega arith) (inside_held_below n files)) file

pub inside_start_of : (files : ℕ → List ℕ) → AllInside (start_of files)
unfolding start_of
inside_start_of files = inside_held_below 144 files

pub changes_one_more : (n : ℕ) (files : ℕ → List ℕ) (file : ℕ) → file ≢ n → changes_of file (held_below (suc n) files) ≡ changes_of file (held_below n files)
unfolding held_below
changes_one_more n files file apart =
    other_change file n synced (on n (wrote 0 (length (files n)) (files n)) ∷ held_below n files) apart
    ∙ other_change file n (wrote 0 (length (files n)) (files n)) (held_below n files) apart

changes_above : (n : ℕ) (files : ℕ → List ℕ) (file : ℕ) → n ≤ file → changes_of file (held_below n files) ≡ []
unfolding held_below
changes_above zero files file above = refl
changes_above (suc n) files file above =
    changes_one_more n files file (λ is. absurd (omega arith)) ∙ changes_above n files file (omega arith)

content_own : (n : ℕ) (files : ℕ → List ℕ) → content_of n (held_below (suc n) files) ≡ files n
unfolding held_below
content_own n files =
    ap reads (own_change n synced (on n (wrote 0 (length (files n)) (files n)) ∷ held_below n files))
    ∙ ap reads (own_change n (wrote 0 (length (files n)) (files n)) (held_below n files))
    ∙ ap (λ (changes : List Change). put 0 (files n) (reads changes)) (changes_above n files n (omega arith))
    ∙ ap (λ (l : List ℕ). files n ++ l) (drop_all (0 + length (files n)) [] (omega arith))
    ∙ append-nil (files n)

content_below : (n : ℕ) (files : ℕ → List ℕ) (file : ℕ) → file < n → content_of file (held_below n files) ≡ files file
content_below zero files file below = absurd (omega arith)
content_below (suc n) files file below = elim (cases_eq file n) [
  | inl own ↦ ap (λ (f : ℕ). content_of f (held_below (suc n) files)) own ∙ content_own n files ∙ sym (ap files own)
  | inr apart ↦ ap reads (changes_one_more n files file apart) ∙ content_below n files file (omega arith)
]

pub held : (files : ℕ → List ℕ) (file : ℕ) → file < 144 → content_of file (start_of files) ≡ files file
unfolding start_of
held files file below = content_below 144 files file below

pub held_none : (files : ℕ → List ℕ) (file : ℕ) → 144 ≤ file → content_of file (start_of files) ≡ []
unfolding start_of
held_none files file above = ap reads (changes_above 144 files file above)
