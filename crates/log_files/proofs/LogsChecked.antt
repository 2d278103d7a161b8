-- What is answered of log files that were read to their ends.
use Rattle.std.proofs.Common.{◌≡◌, ◌∙◌, inl, inr, ℕ, ◌+◌, ◌<◌, List, [], length, Option, Some, Result, Ok, Err, refl, sym, ap, subst, arith}
use Rattle.std.specs.Prelude.{IfOk, IfErr, OnOk}
use Rattle.std.specs.List.{slice_get, slice_index_or}
use Rattle.std.proofs.lemmas.Bool.{cases_lt}
use Rattle.std.proofs.lemmas.Option.{slice_get-get_or}
use Rattle.site_model.specs.History.{Step, content_of}
use Rattle.commit_log.specs.declared.reader.OpenedLog.{OpenedLog}
use Rattle.dura_value.specs.Items.{Entry}
use Rattle.part_items.specs.Kept.{Kept, kept_from, kept_in}
use Rattle.part_items.specs.Logs.{Asked, damaged_at, fault_of, logs_in}
use Rattle.log_files.specs.Checked.{IsOpen, AreOpen, AllOpen, IsChecked, Suits, HasEntries, RefusesLogs, SaysLogs, asked_for, RefusesFirst}
use Rattle.log_files.specs.Fitting.{log_of, kept_behind, FitsFile, FitsFiles, RefusesFiles}
use Rattle.log_files.specs.declared.error.FilesError.{FilesError}
use Rattle.log_files.specs.declared.error.FilesError.TheVariants as errors
use Rattle.log_files.specs.declared.opening.LogFile.{LogFile}
use Rattle.log_files.specs.declared.opening.LogFile.TheVariants.{Fresh, Damaged, Log}
use Rattle.log_files.specs.declared.opening.LogFiles.{LogFiles}
use Rattle.log_files.proofs.Fits.{no_fault}

-- ---- one file

-- without a log nothing more is read
pub other_checked : (steps : List Step) (partition file : ℕ) (found : LogFile) → ((log : OpenedLog) → found ≡ Log log → ⊥) → IsOpen steps partition file found
    → (entries : List Entry) × (gate : ℕ) × (kept_in partition (content_of file steps) ≡ kept_behind entries gate found)
other_checked steps partition file Fresh other opened = ([], 0, ap (kept_from (content_of file steps)) opened)
other_checked steps partition file (Damaged offset) other opened = ([], 0, ap (kept_from (content_of file steps)) opened)
other_checked steps partition file (Log log) other opened = absurd (other log refl)

-- a file that was read and isn't refused by its front suits
suits_file : (asked : Asked) (steps : List Step) (file : ℕ) (found : LogFile) (entries : List Entry) (gate : ℕ) → kept_in asked.partition (content_of file steps) ≡ kept_behind entries gate found → FitsFile asked found
    → Suits asked steps file (Ok (log_of found))
suits_file asked steps file Fresh entries gate kept fits = (entries, gate, kept, refl)
suits_file asked steps file (Damaged offset) entries gate kept fits = absurd fits
suits_file asked steps file (Log log) entries gate kept fits = (entries, gate, kept, no_fault asked file log.header entries gate fits.0 fits.1)

-- by what its front is refused for, or isn't
pub suits_by_front : (asked : Asked) (steps : List Step) (file : ℕ) (found : LogFile) → (entries : List Entry) × (gate : ℕ) × (kept_in asked.partition (content_of file steps) ≡ kept_behind entries gate found)
    → (result : Result (Option OpenedLog) FilesError) → IfOk result (λ log. log ≡ log_of found) → OnOk result (FitsFile asked found)
    → ((entries : List Entry) (gate : ℕ) → IfErr result (λ error. RefusesFiles asked error (fault_of asked file (kept_behind entries gate found)))) → Suits asked steps file result
suits_by_front asked steps file found kept (Ok log) is fits refused =
    subst (λ (l : Option OpenedLog). Suits asked steps file (Ok l)) (sym is) (suits_file asked steps file found kept.0 kept.1 kept.2 fits)
suits_by_front asked steps file found kept (Err error) is fits refused =
    subst (λ (k : Kept). RefusesFiles asked error (fault_of asked file k)) (sym kept.2) (refused kept.0 kept.1)

-- one that couldn't be read is refused
pub refused_file : (asked : Asked) (steps : List Step) (file : ℕ) (found : LogFile) (error : FilesError) → IsChecked {X = Unit {0}} steps asked.partition file found (Err error) → Suits asked steps file (Err error)
refused_file asked steps file found (errors.Damaged other offset) checked =
    ap (fault_of asked file) checked.1 ∙ ap (λ (f : ℕ). Some (damaged_at f offset)) (sym checked.0)
refused_file asked steps file found (errors.OtherShape other count) checked = absurd checked
refused_file asked steps file found (errors.OtherFlows other given) checked = absurd checked
refused_file asked steps file found errors.SiteFault checked = tt
refused_file asked steps file found errors.Memory checked = tt

-- ---- all partitions

-- what holds below a place, and there, holds below the next
pub below_more : (P : ℕ → Type 0) (place : ℕ) → ((lower : ℕ) → lower < place → P lower) → P place → (lower : ℕ) → lower < place + 1 → P lower
below_more P place all here lower below = elim (cases_lt lower place) [
  | inl before ↦ all lower before
  | inr no_lower ↦ let is : place ≡ lower = omega (arith, below, no_lower) in subst P is here
]

pub refused_at : (count digest : ℕ) (files : ℕ → List ℕ) (place : ℕ) (error : FilesError) → place < count → ((lower : ℕ) → lower < place → HasEntries (logs_in (asked_for count digest lower) files))
    → RefusesLogs (asked_for count digest place) error (logs_in (asked_for count digest place) files) → RefusesFirst count digest files error
refused_at count digest files place error below lower refused = record { partition = place; below = below; lower = lower; refused = refused }

-- the front at a place is the one there
pub front_at : (fronts : List LogFiles) (place : ℕ) (other : LogFiles) → place < length fronts → slice_get fronts place ≡ Some (slice_index_or fronts place other)
front_at fronts place other below = slice_get-get_or fronts place other below

pub fits_at : (asked : Asked) (fronts : List LogFiles) (place : ℕ) (other : LogFiles) → place < length fronts → FitsFiles asked (slice_index_or fronts place other) → (both : LogFiles) → slice_get fronts place ≡ Some both → FitsFiles asked both
fits_at asked fronts place other below fits both is =
    let there : Some (slice_index_or fronts place other) ≡ Some both = sym (front_at fronts place other below) ∙ is in
    subst (FitsFiles asked) (cc there) fits

-- what is said under one history is said under the same
pub says_over : (old steps : List Step) (asked : Asked) (fronts : List LogFiles) (other : LogFiles) (result : Result (Unit {0}) FilesError) → old ≡ steps → asked.partition < length fronts → AllOpen steps fronts
    → (AreOpen old asked.partition (slice_index_or fronts asked.partition other) → SaysLogs asked (λ file. content_of file old) result) → SaysLogs asked (λ file. content_of file steps) result
says_over old steps asked fronts other result same below opened says =
    let both = slice_index_or fronts asked.partition other in
    let Says : List Step → Type 0 = λ s. AreOpen s asked.partition both → SaysLogs asked (λ file. content_of file s) result in
    subst Says same says (opened asked.partition both (front_at fronts asked.partition other below))
