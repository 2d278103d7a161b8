-- Files that one call syncs.
use Rattle.std.proofs.Common.{◌≡◌, inl, inr, ℕ, ◌+◌, ◌<◌, List, [], ◌∷◌, ◌++◌, length, take, get_or, Result, Ok, Err, refl, sym, ◌∙◌, ap, subst, arith}
use Rattle.std.specs.Prelude.{OnOk}
use Rattle.std.proofs.lemmas.Bool.{cases_eq}
use Rattle.std.proofs.lemmas.List.{take_more, take_all}
use Rattle.site_model.specs.History.{Change, Step, on, synced, syncing, tape, changes_of, Leaves, AllInside}
use Rattle.site_model.specs.Calls.{Syncs, SyncsAll}
use Rattle.site_model.proofs.Images.{reads_is_image}
use Rattle.site_model.proofs.Paths.{own_change, other_change, inside_on}

pub syncing-append : (front back : List ℕ) (steps : List Step) → syncing (front ++ back) steps ≡ syncing back (syncing front steps)
syncing-append [] back steps = refl
syncing-append (file ∷ front) back steps = syncing-append front back (on file synced ∷ steps)

pub syncing-push : (files : List ℕ) (file : ℕ) (steps : List Step) → syncing (files ++ file ∷ []) steps ≡ on file synced ∷ syncing files steps
syncing-push files file steps = syncing-append files (file ∷ []) steps

pub length-syncing : (files : List ℕ) (steps : List Step) → length (syncing files steps) ≡ length steps + length files
length-syncing [] steps = omega arith
length-syncing (file ∷ files) steps = omega (arith, length-syncing files (on file synced ∷ steps))

pub tape-syncing : (files : List ℕ) (steps : List Step) → tape (syncing files steps) ≡ tape steps
tape-syncing [] steps = refl
tape-syncing (file ∷ files) steps = tape-syncing files (on file synced ∷ steps)

-- files that are synced one after another, and all so far were
pub synced_one_more : (files : List ℕ) (i : ℕ) (start old new : List Step) → i < length files → old ≡ syncing (take i files) start → new ≡ on (get_or files i 0) synced ∷ old
    → new ≡ syncing (take (i + 1) files) start
synced_one_more files i start old new below before is =
    is ∙ ap (λ (steps : List Step). on (get_or files i 0) synced ∷ steps) before ∙ sym (syncing-push (take i files) (get_or files i 0) start)
    ∙ ap (λ (l : List ℕ). syncing l start) (sym (take_more files i 0 below))

-- the next of them failed
pub synced_a_prefix : {T U E F : Type 0} (files : List ℕ) (i : ℕ) (start old new : List Step) (result : Result U E) (error : F) → i < length files → old ≡ syncing (take i files) start
    → Syncs (get_or files i 0) old new result → SyncsAll {T = T} files start new (Err error)
synced_a_prefix files i start old new result error below before syncs = elim syncs.either [
  | inl is ↦ record { count = i + 1; steps = synced_one_more files i start old new below before is; ok = tt }
  | inr same ↦ record { count = i; steps = same ∙ before; ok = tt }
]

-- all were
pub synced_all : {T E : Type 0} (files : List ℕ) (old new : List Step) (result : Result T E) → new ≡ syncing files old → SyncsAll files old new result
synced_all files old new result is = record {
  count = length files;
  steps = is ∙ ap (λ (l : List ℕ). syncing l old) (sym (take_all (length files) files (omega arith)));
  ok = elim result as (λ r. OnOk r (new ≡ syncing files old)) [ Ok value ↦ is | Err error ↦ tt ];
}

pub inside_syncing : (files : List ℕ) (steps : List Step) → AllInside steps → AllInside (syncing files steps)
inside_syncing [] steps inside = inside
inside_syncing (file ∷ files) steps inside = inside_syncing files (on file synced ∷ steps) (inside_on file synced steps inside (inside file))

-- A sync leaves no new crash image. So whichever files a crash finds synced, in whatever order, it leaves an image of the moment before them.
pub syncing_shrinks : (files : List ℕ) (steps : List Step) (file : ℕ) (image : List ℕ) → AllInside steps
    → Leaves (changes_of file (syncing files steps)) image → Leaves (changes_of file steps) image
syncing_shrinks [] steps file image inside left = left
syncing_shrinks (first ∷ files) steps file image inside left =
    let then = syncing_shrinks files (on first synced ∷ steps) file image (inside_on first synced steps inside (inside first)) left in
    elim (cases_eq file first) [
      | inl is ↦
          let own : Leaves (synced ∷ changes_of first steps) image =
          subst (λ (changes : List Change). Leaves changes image) (own_change first synced steps) (subst (λ (f : ℕ). Leaves (changes_of f (on first synced ∷ steps)) image) is then) in
          subst (λ (f : ℕ). Leaves (changes_of f steps) image) (sym is) (subst (Leaves (changes_of first steps)) (sym own) (reads_is_image (changes_of first steps) (inside first)))
      | inr apart ↦ subst (λ (changes : List Change). Leaves changes image) (other_change file first synced steps apart) then
    ]
