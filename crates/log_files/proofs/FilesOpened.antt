-- What syncs of log files leave, and what stands at their fronts.
use Rattle.std.proofs.Common.{◌≡◌, ◌∙◌, ◌⊎◌, inl, inr, ℕ, zero, suc, ◌+◌, ◌≤◌, ◌<◌, Bool, true, false, cond, ◌==◌, List, [], ◌∷◌, ◌++◌, length, Some, Result, Ok, Err, refl, sym, ap, subst, arith}
use Rattle.std.specs.List.{slice_get}
use Rattle.std.specs.Result.{is_ok, is_err}
use Rattle.std.proofs.lemmas.Bool.{cases_lt, eq-eqb}
use Rattle.std.proofs.lemmas.Option.{slice_get_within}
use Rattle.site_model.specs.History.{Step, on, synced, reads, changes_of, content_of, IsKept}
use Rattle.commit_log.specs.Segment.{first_gate}
use Rattle.commit_log.specs.Frames.{HasRead}
use Rattle.part_items.specs.Logs.{first_log, second_log}
use Rattle.log_files.specs.Checked.{IsOpen, AreOpen, AllOpen}
use Rattle.log_files.specs.Fronts.{IsFront, AreFronts, AllFronts, synced_to, AreSyncs}
use Rattle.log_files.specs.declared.opening.LogFile.{LogFile}
use Rattle.log_files.specs.declared.opening.LogFile.TheVariants.{Fresh, Damaged, Log}
use Rattle.log_files.specs.declared.opening.LogFiles.{LogFiles}

-- ---- one sync

-- it leaves the contents as they are
content_on : (file other : ℕ) (steps : List Step) → content_of file (on other synced ∷ steps) ≡ content_of file steps
content_on file other steps = by (file == other)
  where
    by : (b : Bool) → reads (cond b (synced ∷ changes_of file steps) (changes_of file steps)) ≡ reads (changes_of file steps)
    by true = refl
    by false = refl

-- and what a crash can't change
kept_on : (file other : ℕ) (steps : List Step) → IsKept (changes_of file steps) → IsKept (changes_of file (on other synced ∷ steps))
kept_on file other steps kept = by (file == other)
  where
    by : (b : Bool) → IsKept (cond b (synced ∷ changes_of file steps) (changes_of file steps))
    by true = λ image left. left
    by false = kept

-- a crash can't change what was synced
kept_own : (file : ℕ) (steps : List Step) → IsKept (changes_of file (on file synced ∷ steps))
kept_own file steps = by (file == file) (eq-eqb file file refl)
  where
    by : (b : Bool) → b ≡ true → IsKept (cond b (synced ∷ changes_of file steps) (changes_of file steps))
    by true is = λ image left. left
    by false is = absurd (cc is)

-- ---- the syncs of many

pub content_synced : (count : ℕ) (file : ℕ) (steps : List Step) → content_of file (synced_to count steps) ≡ content_of file steps
content_synced zero file steps = refl
content_synced (suc partition) file steps =
    content_on file (second_log partition) (on (first_log partition) synced ∷ synced_to partition steps)
    ∙ content_on file (first_log partition) (synced_to partition steps) ∙ content_synced partition file steps

-- both files of a partition below were synced
both_kept : (count : ℕ) (partition : ℕ) (steps : List Step) → partition < count → IsKept (changes_of (first_log partition) (synced_to count steps)) × IsKept (changes_of (second_log partition) (synced_to count steps))
both_kept zero partition steps below = absurd (omega (arith, below))
both_kept (suc last) partition steps below =
    let mid = synced_to last steps in
    let then = on (first_log last) synced ∷ mid in
    elim (cases_lt partition last) [
      | inl lower ↦
          let kept = both_kept last partition steps lower in (
            kept_on (first_log partition) (second_log last) then (kept_on (first_log partition) (first_log last) mid kept.0),
            kept_on (second_log partition) (second_log last) then (kept_on (second_log partition) (first_log last) mid kept.1),
          )
      | inr no_lower ↦
          let is : last ≡ partition = omega (arith, below, no_lower) in (
            kept_on (first_log partition) (second_log last) then (subst (λ (p : ℕ). IsKept (changes_of (first_log p) then)) is (kept_own (first_log last) mid)),
            subst (λ (p : ℕ). IsKept (changes_of (second_log p) (on (second_log last) synced ∷ then))) is (kept_own (second_log last) then),
          )
    ]

-- ---- what stands in the files that were synced

open_file : (partition file : ℕ) (old new : List Step) (found : LogFile) → content_of file new ≡ content_of file old → IsKept (changes_of file new) → IsFront partition (content_of file old) file found → IsOpen new partition file found
open_file partition file old new Fresh same kept front = subst (λ (c : List ℕ). IsFront partition c file Fresh) (sym same) front
open_file partition file old new (Damaged offset) same kept front = subst (λ (c : List ℕ). IsFront partition c file (Damaged offset)) (sym same) front
open_file partition file old new (Log log) same kept front =
    let here = subst (λ (c : List ℕ). IsFront partition c file (Log log)) (sym same) front in (
      here.0,
      here.1,
      record {
        read = subst (λ (f : ℕ). HasRead (content_of f new) log.header [] first_gate) (sym here.1) here.2;
        size = here.3 ∙ ap (λ (f : ℕ). length (content_of f new)) (sym here.1);
        kept = subst (λ (f : ℕ). IsKept (changes_of f new)) (sym here.1) kept;
      },
    )

pub all_open : (count : ℕ) (old new : List Step) (fronts : List LogFiles) → new ≡ synced_to count old → length fronts ≡ count → AllFronts (λ file. content_of file old) fronts → AllOpen new fronts
all_open count old new fronts steps many all partition both is =
    let front = all partition both is in
    let within = slice_get_within fronts partition both is in
    let kept = both_kept count partition old (omega (arith, within, many)) in
    let Says : List Step → Type 0 = λ s. AreOpen s partition both in
    subst Says (sym steps) (
      open_file partition (first_log partition) old (synced_to count old) both.first (content_synced count (first_log partition) old) kept.0 front.0,
      open_file partition (second_log partition) old (synced_to count old) both.second (content_synced count (second_log partition) old) kept.1 front.1,
    )

pub same_contents : (count : ℕ) (old new : List Step) → new ≡ synced_to count old → (file : ℕ) → content_of file new ≡ content_of file old
same_contents count old new steps file = ap (content_of file) steps ∙ content_synced count file old

-- ---- one partition after another

-- what is said of each element is said of one more
pushed : {X : Type 0} (P : ℕ → X → Type 0) (xs : List X) (new : X) → ((place : ℕ) (x : X) → slice_get xs place ≡ Some x → P place x) → P (length xs) new → (place : ℕ) (x : X) → slice_get (xs ++ new ∷ []) place ≡ Some x → P place x
pushed P [] new all here zero x is = subst (P 0) (cc is) here
pushed P [] new all here (suc place) x is = absurd (cc is)
pushed P (y ∷ xs) new all here zero x is = all 0 x is
pushed P (y ∷ xs) new all here (suc place) x is = pushed (λ n. P (suc n)) xs new (λ later z there. all (suc later) z there) here place x is

pub none_yet : (files : ℕ → List ℕ) (fronts : List LogFiles) → fronts ≡ [] → AllFronts files fronts
none_yet files fronts none = subst (AllFronts files) (sym none) (λ partition both is. absurd (cc is))

pub one_more : (count : ℕ) (old mid : List Step) (fronts : List LogFiles) (both : LogFiles) → mid ≡ synced_to count old → length fronts ≡ count → AllFronts (λ file. content_of file old) fronts → AreFronts (λ file. content_of file mid) count both
    → AllFronts (λ file. content_of file old) (fronts ++ both ∷ [])
one_more count old mid fronts both steps many all here =
    let same : (file : ℕ) → content_of file mid ≡ content_of file old = same_contents count old mid steps in
    let first = subst (λ (c : List ℕ). IsFront count c (first_log count) both.first) (same (first_log count)) here.0 in
    let second = subst (λ (c : List ℕ). IsFront count c (second_log count) both.second) (same (second_log count)) here.1 in
    let Says : ℕ → LogFiles → Type 0 = λ partition found. AreFronts (λ file. content_of file old) partition found in
    pushed Says fronts both all (subst (λ (n : ℕ). Says n both) (sym many) (first, second))

-- what a push left that succeeded
pub pushed_items : {T E X : Type 0} (r : Result T E) (some none new : List X) {told : Bool} → told ≡ false → told ≡ is_err r → new ≡ cond (is_ok r) some none → new ≡ some
pushed_items (Ok x) some none new fell is items = items
pushed_items (Err e) some none new fell is items = absurd (cc (fell, is))

-- ---- where the syncs stopped

synced_more : (count : ℕ) (old mid new : List Step) → mid ≡ synced_to count old → new ≡ on (second_log count) synced ∷ on (first_log count) synced ∷ mid → new ≡ synced_to (suc count) old
synced_more count old mid new steps is = is ∙ ap (λ (s : List Step). on (second_log count) synced ∷ on (first_log count) synced ∷ s) steps

pub synced_on : (count : ℕ) (old mid new : List Step) → mid ≡ synced_to count old → new ≡ on (second_log count) synced ∷ on (first_log count) synced ∷ mid → new ≡ synced_to (count + 1) old
synced_on count old mid new steps is =
    let one : suc count ≡ count + 1 = omega arith in
    synced_more count old mid new steps is ∙ ap (λ (n : ℕ). synced_to n old) one

pub synced_some : (count most : ℕ) (old new : List Step) → most ≤ count → new ≡ synced_to most old → AreSyncs count old new
synced_some count most old new below steps = (most, below, inl steps)

pub syncs_stopped : (count most : ℕ) (old mid new : List Step) → most < count → mid ≡ synced_to most old
    → (new ≡ mid) ⊎ ((new ≡ on (first_log most) synced ∷ mid) ⊎ (new ≡ on (second_log most) synced ∷ on (first_log most) synced ∷ mid)) → AreSyncs count old new
syncs_stopped count most old mid new below steps (inl is) = (most, omega (arith, below), inl (is ∙ steps))
syncs_stopped count most old mid new below steps (inr (inl is)) = (most, omega (arith, below), inr (below, is ∙ ap (λ (s : List Step). on (first_log most) synced ∷ s) steps))
syncs_stopped count most old mid new below steps (inr (inr is)) = (suc most, omega (arith, below), inl (synced_more most old mid new steps is))

pub stopped_contents : (most : ℕ) (old mid new : List Step) → mid ≡ synced_to most old
    → (new ≡ mid) ⊎ ((new ≡ on (first_log most) synced ∷ mid) ⊎ (new ≡ on (second_log most) synced ∷ on (first_log most) synced ∷ mid)) → (file : ℕ) → content_of file new ≡ content_of file old
stopped_contents most old mid new steps (inl is) file = ap (content_of file) is ∙ same_contents most old mid steps file
stopped_contents most old mid new steps (inr (inl is)) file = ap (content_of file) is ∙ content_on file (first_log most) mid ∙ same_contents most old mid steps file
stopped_contents most old mid new steps (inr (inr is)) file = same_contents (suc most) old new (synced_more most old mid new steps is) file
