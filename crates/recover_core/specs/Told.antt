-- What the steps of a recovery tell of why nothing is recovered.
use Rattle.std.specs.Prelude.{◌≡◌, ◌⊎◌, ℕ, ◌<◌, List, Option, None, Result, Ok, Err}
use Rattle.flow_syntax.specs.Syntax.{Flows}
use Rattle.dura_model.specs.Partition.{Partition}
use Rattle.log_files.specs.Checked.{asked_for, HasEntries, RefusesFirst}
use Rattle.log_files.specs.declared.error.FilesError.{FilesError}
use Rattle.log_files.specs.declared.error.FilesError.TheVariants as unfit
use Rattle.log_items.specs.Plain.{entry_of}
use Rattle.log_items.specs.declared.frames.Entry as read
use Rattle.many_logs.specs.Placing.{commit_accepted}
use Rattle.many_logs.specs.Unplaced.{Unplaced, why}
use Rattle.part_items.specs.Logs.{logs_in}
use Rattle.recover_core.specs.Courses.{StandsNext}
use Rattle.recover_core.specs.Reasons.{IsReason}
use Rattle.recover_core.specs.Rounds.{IsOutside}
use Rattle.recover_core.specs.declared.course.Comes.{Comes}
use Rattle.recover_core.specs.declared.course.Comes.TheVariants.{More, Waits, Refused, End}
use Rattle.recover_core.specs.declared.error.RecoverError.{RecoverError}
use Rattle.recover_core.specs.declared.error.RecoverError.TheVariants as errors

-- ---- files

abbrev pub error_of : FilesError → RecoverError
error_of (unfit.Damaged file offset) = errors.Damaged file offset
error_of (unfit.OtherShape found asked) = errors.OtherShape found asked
error_of (unfit.OtherFlows found given) = errors.OtherFlows found given
error_of unfit.SiteFault = errors.SiteFault
error_of unfit.Memory = errors.Memory

-- no partition's log files are refused
abbrev pub AllKeep : (count digest : ℕ) → (files : ℕ → List ℕ) → Type 0
AllKeep count digest files = (partition : ℕ) → partition < count → HasEntries (logs_in (asked_for count digest partition) files)

-- the first fault of all files is this one, unless the disk failed or memory ran out
abbrev pub RefusesAll : (count digest : ℕ) → (files : ℕ → List ℕ) → RecoverError → Type 0
RefusesAll count digest files error = (fault : FilesError) × (error ≡ error_of fault) × RefusesFirst count digest files fault

abbrev pub ChecksAll : {X : Type 0} → (count digest : ℕ) → (files : ℕ → List ℕ) → Result X RecoverError → Type 0
ChecksAll count digest files (Ok x) = AllKeep count digest files
ChecksAll count digest files (Err error) = RefusesAll count digest files error

-- where a log couldn't be read: the first fault of all files; or this one stands where none has any
abbrev pub WhyBroken : (count digest : ℕ) → (files : ℕ → List ℕ) → (broken error : RecoverError) → Type 0
WhyBroken count digest files broken error = IsOutside error ⊎ (RefusesAll count digest files error ⊎ ((error ≡ broken) × AllKeep count digest files))

-- ---- entries

-- it is this reason, unless memory ran out
abbrev pub IsReasonOr : RecoverError → Option Unplaced → Type 0
IsReasonOr errors.Memory found = Unit {0}
IsReasonOr error found = IsReason error found

-- why the next entry of a partition isn't placed, if it isn't
abbrev pub TellsWhy : Flows → (count : ℕ) → (ℕ → Partition) → (place : ℕ) → read.Entry → RecoverError → Type 0
TellsWhy flows count parts place entry error =
    commit_accepted flows count parts place (entry_of entry) ≡ None → StandsNext (parts place) entry → IsReasonOr error (why flows count parts (record { partition = place; entry = entry_of entry }))

abbrev pub TellsLeft : Flows → (count : ℕ) → (ℕ → Partition) → (place : ℕ) → Comes → RecoverError → Type 0
TellsLeft flows count parts place (Waits entry reader) error = TellsWhy flows count parts place entry error
TellsLeft flows count parts place (Refused entry reader) error = TellsWhy flows count parts place entry error
TellsLeft flows count parts place (More reader) error = Unit {0}
TellsLeft flows count parts place (End end) error = Unit {0}
