-- Syncs of log files leave nothing but what could have been left before.
use Rattle.std.proofs.Common.{◌≡◌, ◌≢◌, ◌≤◌, ◌<◌, inl, inr, ℕ, zero, suc, List, ◌∷◌, refl, sym, ◌∙◌, subst, arith}
use Rattle.std.proofs.lemmas.Bool.{cases_eq}
use Rattle.flow_syntax.specs.Syntax.{Flows}
use Rattle.log_files.specs.Fronts.{synced_to, AreSyncs}
use Rattle.many_logs.specs.Placing.{Commit}
use Rattle.open_logs.specs.Moments.{IsNoLogFile, IsOpening}
use Rattle.part_items.specs.Logs.{first_log, second_log}
use Rattle.site_model.specs.History.{Step, on, synced, reads, changes_of, tape, Leaves, IsImage, IsKept, AllInside}
use Rattle.site_model.specs.Moments.{Always, begins, goes_on}
use Rattle.site_model.proofs.Images.{reads_is_image}
use Rattle.site_model.proofs.Paths.{own_change, other_change, inside_on, last, weaker}

-- ---- one sync

-- what a crash leaves of files of which one was synced it could have left before
synced_image : (file : ℕ) (steps : List Step) (image : ℕ → List ℕ) → AllInside steps → IsImage (on file synced ∷ steps) image → IsImage steps image
synced_image file steps image inside is = record {
  each = λ f. elim (cases_eq f file) [
    | inl same ↦
        let change : changes_of f (on file synced ∷ steps) ≡ synced ∷ changes_of f steps = subst (λ (n : ℕ). changes_of f (on n synced ∷ steps) ≡ synced ∷ changes_of f steps) same (own_change f synced steps) in
        let kept : image f ≡ reads (changes_of f steps) = subst (λ c. Leaves c (image f)) change (is.each f) in
        subst (Leaves (changes_of f steps)) (sym kept) (reads_is_image (changes_of f steps) (inside f))
    | inr apart ↦ subst (λ c. Leaves c (image f)) (other_change f file synced steps apart) (is.each f)
  ];
}

-- a crash can't change what was synced
kept_own : (file : ℕ) (steps : List Step) → IsKept (changes_of file (on file synced ∷ steps))
kept_own file steps = subst IsKept (sym (own_change file synced steps)) (λ image left. left)

kept_on : (file other : ℕ) (steps : List Step) → IsKept (changes_of file steps) → IsKept (changes_of file (on other synced ∷ steps))
kept_on file other steps kept = elim (cases_eq file other) [
  | inl same ↦ subst (λ (n : ℕ). IsKept (changes_of file (on n synced ∷ steps))) same (kept_own file steps)
  | inr apart ↦ subst IsKept (sym (other_change file other synced steps apart)) kept
]

-- ---- all of them

-- all of both files of a partition below is on the disk
pub both_kept : (count partition : ℕ) (steps : List Step) → partition < count → IsKept (changes_of (first_log partition) (synced_to count steps)) × IsKept (changes_of (second_log partition) (synced_to count steps))
both_kept zero partition steps below = absurd (omega (arith, below))
both_kept (suc most) partition steps below =
    let mid = synced_to most steps in
    let then = on (first_log most) synced ∷ mid in
    elim (cases_eq partition most) [
      | inl same ↦ (
        kept_on (first_log partition) (second_log most) then (subst (λ (p : ℕ). IsKept (changes_of (first_log partition) (on (first_log p) synced ∷ mid))) same (kept_own (first_log partition) mid)),
        subst (λ (p : ℕ). IsKept (changes_of (second_log partition) (on (second_log p) synced ∷ then))) same (kept_own (second_log partition) then),
      )
      | inr apart ↦
          let kept = both_kept most partition steps (omega (arith, below, apart)) in (
            kept_on (first_log partition) (second_log most) then (kept_on (first_log partition) (first_log most) mid kept.0),
            kept_on (second_log partition) (second_log most) then (kept_on (second_log partition) (first_log most) mid kept.1),
          )
    ]

-- Since the old moment only log files were synced.
record HasSynced (count : ℕ) (old steps : List Step) : Type 0 where
  silent : tape steps ≡ tape old
  images : (image : ℕ → List ℕ) → IsImage steps image → IsImage old image
  others : (file : ℕ) → IsNoLogFile count file → changes_of file steps ≡ changes_of file old
  inside : AllInside steps

one_more : (count : ℕ) (old steps : List Step) (file : ℕ) → ((other : ℕ) → IsNoLogFile count other → other ≢ file) → HasSynced count old steps → HasSynced count old (on file synced ∷ steps)
one_more count old steps file is_log so_far = record {
  silent = so_far.silent;
  images = λ image is. so_far.images image (synced_image file steps image so_far.inside is);
  others = λ other none. other_change other file synced steps (is_log other none) ∙ so_far.others other none;
  inside = inside_on file synced steps so_far.inside (so_far.inside file);
}

path_first : (count most : ℕ) (old : List Step) → most < count → Always (HasSynced count old) old (synced_to most old) → Always (HasSynced count old) old (on (first_log most) synced ∷ synced_to most old)
path_first count most old below path = goes_on path (one_more count old (synced_to most old) (first_log most) (λ other none. (none most below).0) (last path))

path_to : (count most : ℕ) (old : List Step) → AllInside old → most ≤ count → Always (HasSynced count old) old (synced_to most old)
path_to count zero old inside few = begins (record { silent = refl; images = λ image is. is; others = λ file none. refl; inside = inside })
path_to count (suc most) old inside few =
    let below : most < count = omega (arith, few) in
    let mid = path_first count most old below (path_to count most old inside (omega (arith, few))) in
    goes_on mid (one_more count old (on (first_log most) synced ∷ synced_to most old) (second_log most) (λ other none. (none most below).1) (last mid))

syncs_path : (count : ℕ) (old new : List Step) → AllInside old → AreSyncs count old new → Always (HasSynced count old) old new
syncs_path count old new inside (most, few, inl is) = subst (Always (HasSynced count old) old) (sym is) (path_to count most old inside few)
syncs_path count old new inside (most, few, inr more) = subst (Always (HasSynced count old) old) (sym more.1) (path_first count most old more.0 (path_to count most old inside few))

-- so it is while logs are looked for
pub syncs_open : (flows : Flows) (count digest : ℕ) (run : List Commit) (old new : List Step) → AllInside old → AreSyncs count old new → Always (IsOpening flows count digest run old) old new
syncs_open flows count digest run old new inside syncs =
    weaker (λ steps here. record { silent = here.silent; images = λ image is. inl (here.images image is); others = here.others }) (syncs_path count old new inside syncs)

pub synced_silent : (count most : ℕ) (old : List Step) → tape (synced_to most old) ≡ tape old
synced_silent count zero old = refl
synced_silent count (suc most) old = synced_silent count most old

pub synced_others : (count : ℕ) (old : List Step) (file : ℕ) → AllInside old → IsNoLogFile count file → changes_of file (synced_to count old) ≡ changes_of file old
synced_others count old file inside none = (last (path_to count count old inside (omega arith))).others file none
