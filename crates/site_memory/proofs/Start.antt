-- How the start of a site after a crash is made.
use Rattle.std.proofs.Common.{◌≡◌, ◌≢◌, ◌==◌, inl, inr, ℕ, zero, suc, ◌+◌, ◌<◌, Bool, true, false, cond, List, [], ◌∷◌, ◌++◌, length, drop, refl, sym, ◌∙◌, ap, subst, arith, append_assoc}
use Rattle.std.proofs.lemmas.Bool.{cases_eq, and_parts, le-leb}
use Rattle.std.proofs.lemmas.List.{nil_from_length, append-nil, drop_all}
use Rattle.site_model.specs.History.{Step, Change, on, said, wrote, synced, changes_of, reads, content_of, put, Leaves, IsImage, writes_inside, saying, tape, IsKept, AllInside}
use Rattle.site_model.proofs.Paths.{own_change, other_change, inside_on, and_true}
use Rattle.site_memory.specs.Record.{grown}
use Rattle.site_memory.specs.Picked.{picked}
use Rattle.site_memory.specs.declared.pick.Pick.{Pick}
use Rattle.site_memory.specs.declared.pick.Pick.TheVariants.{Stable, All, Torn}
use Rattle.site_memory.specs.Start.{IsStart}
use Rattle.site_memory.proofs.History.{changes_saying}
use Rattle.site_memory.proofs.Picked.{picked_leaves}

-- the start

pub start_empty : (pick : Pick) (old : List Step) → IsStart pick old [] []
start_empty pick old = record { files = λ file. inr (refl, refl); no_tape = refl; inside = λ file. refl; kept = λ file image left. left }

-- the walk goes on by a step of another kind, or of a file that has its image
start_walked : (pick : Pick) (old walked further new : List Step) → IsStart pick old walked new
    → ((file : ℕ) → changes_of file new ≡ [] → changes_of file walked ≡ [] → changes_of file further ≡ []) → IsStart pick old further new
start_walked pick old walked further new is on_further = record {
  files = λ file. elim (is.files file) [ inl left ↦ inl left | inr none ↦ inr (none.0, on_further file none.0 none.1) ];
  no_tape = is.no_tape;
  inside = is.inside;
  kept = is.kept;
}

pub start_said : (pick : Pick) (byte : ℕ) (old walked new : List Step) → IsStart pick old walked new → IsStart pick old (said byte ∷ walked) new
start_said pick byte old walked new is = start_walked pick old walked (said byte ∷ walked) new is (λ file none before. before)

changes_grown : (file byte : ℕ) (steps : List Step) → changes_of file steps ≡ [] → changes_of file (grown byte steps) ≡ []
changes_grown file byte [] none = none
changes_grown file byte (said other ∷ steps) none = none
changes_grown file byte (on other synced ∷ steps) none = none
changes_grown file byte (on other (wrote at size bytes) ∷ steps) none =
    elim (file == other) as (λ (b : Bool).
    cond b (wrote at size bytes ∷ changes_of file steps) (changes_of file steps) ≡ []
    → cond b (wrote at size (bytes ++ byte ∷ []) ∷ changes_of file steps) (changes_of file steps) ≡ []) [
      | true ↦ λ e. cc
      | false ↦ λ e. e
    ] none

pub start_grown : (pick : Pick) (byte : ℕ) (old walked new : List Step) → IsStart pick old walked new → IsStart pick old (grown byte walked) new
start_grown pick byte old walked new is = start_walked pick old walked (grown byte walked) new is (λ file none before. changes_grown file byte walked before)

pub start_passed : (pick : Pick) (file : ℕ) (change : Change) (old walked new : List Step) → 0 < length (changes_of file new)
    → IsStart pick old walked new → IsStart pick old (on file change ∷ walked) new
start_passed pick file change old walked new has is = start_walked pick old walked (on file change ∷ walked) new is (λ other none before. elim (cases_eq other file) [
  | inl same ↦ absurd (omega (arith, ap length none, ap (λ (f : ℕ). length (changes_of f new)) same))
  | inr apart ↦ other_change other file change walked apart ∙ before
])

-- the new history with a file more
abbrev pub started : ℕ → List ℕ → List Step → List Step
started file bytes new = on file synced ∷ on file (wrote 0 (length bytes) bytes) ∷ new

content_started : (file : ℕ) (bytes : List ℕ) (new : List Step) → changes_of file new ≡ [] → content_of file (started file bytes new) ≡ bytes
content_started file bytes new none =
    ap reads (own_change file synced (on file (wrote 0 (length bytes) bytes) ∷ new))
    ∙ ap reads (own_change file (wrote 0 (length bytes) bytes) new)
    ∙ ap (λ (cs : List Change). put 0 bytes (reads cs)) none
    ∙ ap (λ (l : List ℕ). bytes ++ l) (drop_all (0 + length bytes) [] (omega arith))
    ∙ append-nil bytes

changes_started : (other file : ℕ) (bytes : List ℕ) (new : List Step) → other ≢ file → changes_of other (started file bytes new) ≡ changes_of other new
changes_started other file bytes new apart =
    other_change other file synced (on file (wrote 0 (length bytes) bytes) ∷ new) apart ∙ other_change other file (wrote 0 (length bytes) bytes) new apart

inside_started : (file : ℕ) (bytes : List ℕ) (new : List Step) → AllInside new → AllInside (started file bytes new)
inside_started file bytes new inside =
    let written : AllInside (on file (wrote 0 (length bytes) bytes) ∷ new) =
    inside_on file (wrote 0 (length bytes) bytes) new inside
    (and_true (and_true (le-leb 0 (length (content_of file new)) (omega arith)) (le-leb (length bytes) (length bytes) (omega arith))) (inside file)) in
    inside_on file synced (on file (wrote 0 (length bytes) bytes) ∷ new) written (written file)

kept_started : (file : ℕ) (bytes : List ℕ) (new : List Step) → ((other : ℕ) → IsKept (changes_of other new))
    → (other : ℕ) → IsKept (changes_of other (started file bytes new))
kept_started file bytes new kept other = elim (cases_eq other file) [
  | inl own ↦
      subst (λ (f : ℕ). IsKept (changes_of f (started file bytes new))) (sym own)
      (subst (λ (cs : List Change). IsKept cs) (sym (own_change file synced (on file (wrote 0 (length bytes) bytes) ∷ new))) (λ image left. left))
  | inr apart ↦ subst (λ (cs : List Change). IsKept cs) (sym (changes_started other file bytes new apart)) (kept other)
]

pub start_added : (pick : Pick) (file : ℕ) (change : Change) (bytes : List ℕ) (old walked new newer : List Step) → length (changes_of file new) ≡ 0
    → bytes ≡ picked pick (changes_of file old) → newer ≡ started file bytes new
    → IsStart pick old walked new → IsStart pick old (on file change ∷ walked) newer
start_added pick file change bytes old walked new newer none left same is = subst (λ (s : List Step). IsStart pick old (on file change ∷ walked) s) (sym same) (record {
  files = λ other. elim (cases_eq other file) [
    | inl own ↦ inl (ap (λ (f : ℕ). content_of f (started file bytes new)) own ∙ content_started file bytes new (nil_from_length _ none) ∙ left
        ∙ sym (ap (λ (f : ℕ). picked pick (changes_of f old)) own))
    | inr apart ↦ elim (is.files other) [
      | inl has ↦ inl (ap reads (changes_started other file bytes new apart) ∙ has)
      | inr none_yet ↦ inr (changes_started other file bytes new apart ∙ none_yet.0, other_change other file change walked apart ∙ none_yet.1)
    ]
  ];
  no_tape = is.no_tape;
  inside = inside_started file bytes new is.inside;
  kept = kept_started file bytes new is.kept;
})

picked_none : (pick : Pick) → picked pick [] ≡ []
picked_none Stable = refl
picked_none All = refl
picked_none (Torn byte) = refl

-- the start with its tape
pub start_picked : (pick : Pick) (line : List ℕ) (old new newer : List Step) → newer ≡ saying line new → IsStart pick old old new
    → (file : ℕ) → content_of file newer ≡ picked pick (changes_of file old)
start_picked pick line old new newer same is file =
    ap (λ (s : List Step). content_of file s) same
    ∙ ap reads (changes_saying file line new)
    ∙ elim (is.files file) [
      | inl left ↦ left
      | inr none ↦ ap reads none.0 ∙ sym (ap (picked pick) none.1 ∙ picked_none pick)
    ]

pub start_image : (pick : Pick) (old newer : List Step) → AllInside old
    → ((file : ℕ) → content_of file newer ≡ picked pick (changes_of file old)) → IsImage old (λ file. content_of file newer)
start_image pick old newer inside is = record {
  each = λ file. subst (λ (l : List ℕ). Leaves (changes_of file old) l) (sym (is file)) (picked_leaves pick (changes_of file old) (inside file));
}

pub start_kept : (pick : Pick) (line : List ℕ) (old new newer : List Step) → newer ≡ saying line new → IsStart pick old old new
    → (file : ℕ) → IsKept (changes_of file newer)
start_kept pick line old new newer same is file =
    subst (λ (cs : List Change). IsKept cs) (sym (ap (λ (s : List Step). changes_of file s) same ∙ changes_saying file line new)) (is.kept file)

tape-saying : (line : List ℕ) (steps : List Step) → tape (saying line steps) ≡ tape steps ++ line
tape-saying [] steps = sym (append-nil (tape steps))
tape-saying (byte ∷ line) steps = tape-saying line (said byte ∷ steps) ∙ append_assoc (tape steps) (byte ∷ []) line

pub start_tape : (pick : Pick) (line : List ℕ) (old new newer : List Step) → newer ≡ saying line new → line ≡ tape old → IsStart pick old old new → tape newer ≡ tape old
start_tape pick line old new newer same told is =
    ap tape same ∙ tape-saying line new ∙ ap (λ (l : List ℕ). l ++ line) is.no_tape ∙ told

-- what came before was inside too
inside_before : (step : Step) (steps : List Step) → AllInside (step ∷ steps) → AllInside steps
inside_before (said byte) steps inside file = inside file
inside_before (on other change) steps inside file =
    elim (file == other) as (λ (b : Bool). writes_inside (cond b (change ∷ changes_of file steps) (changes_of file steps)) ≡ true → writes_inside (changes_of file steps) ≡ true) [
      | true ↦ behind change
      | false ↦ λ e. e
    ] (inside file)
  where
    behind : (change : Change) → writes_inside (change ∷ changes_of file steps) ≡ true → writes_inside (changes_of file steps) ≡ true
    behind synced e = e
    behind (wrote at size bytes) e = (and_parts _ (writes_inside (changes_of file steps)) e).1

pub inside_drop : (n : ℕ) (steps : List Step) → AllInside steps → AllInside (drop n steps)
inside_drop zero steps inside = inside
inside_drop (suc n) [] inside = inside
inside_drop (suc n) (step ∷ steps) inside = inside_drop n steps (inside_before step steps inside)
