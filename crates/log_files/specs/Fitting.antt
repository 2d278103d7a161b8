-- Which log a partition has in its two files, by their fronts, and why they are refused.
use Rattle.std.specs.Prelude.{◌≡◌, ◌⊎◌, ℕ, List, Option, Some, None, Result, Ok, Err}
use Rattle.site_model.specs.History.{Step, content_of}
use Rattle.commit_log.specs.declared.reader.OpenedLog.{OpenedLog}
use Rattle.dura_value.specs.Items.{Entry}
use Rattle.part_items.specs.Kept.{Kept, nothing, broken, keeps}
use Rattle.part_items.specs.Logs.{Asked, Refusal, Logs, refused, damaged_at, other_shape, other_flows, same_base, late_base, or_else, no_log, log_in, logs_in, first_log, second_log}
use Rattle.log_files.specs.Entries.{IsOpenedLog, whole_of}
use Rattle.log_files.specs.declared.asked.Asked as given
use Rattle.log_files.specs.declared.error.FilesError.{FilesError}
use Rattle.log_files.specs.declared.error.FilesError.TheVariants as errors
use Rattle.log_files.specs.declared.opening.LogFile.{LogFile}
use Rattle.log_files.specs.declared.opening.LogFile.TheVariants.{Fresh, Damaged, Log}
use Rattle.log_files.specs.declared.opening.LogFiles.{LogFiles}

abbrev pub plain : given.Asked → Asked
plain asked = record { partition = asked.partition; count = asked.count; digest = asked.digest }

-- the log of a file
abbrev pub log_of : LogFile → Option OpenedLog
log_of Fresh = None
log_of (Damaged offset) = None
log_of (Log log) = Some log

-- what a file keeps that has this log with these entries, or none
abbrev pub kept_as : (entries : List Entry) → (gate : ℕ) → Option OpenedLog → Kept
kept_as entries gate None = nothing
kept_as entries gate (Some log) = keeps log.header entries gate

-- and what one with this front does
abbrev pub kept_behind : (entries : List Entry) → (gate : ℕ) → LogFile → Kept
kept_behind entries gate Fresh = nothing
kept_behind entries gate (Damaged offset) = broken offset
kept_behind entries gate (Log log) = keeps log.header entries gate

-- the first fault of the files is the one that this error names, unless the disk failed or memory ran out
abbrev pub RefusesFiles : Asked → FilesError → Option Refusal → Type 0
RefusesFiles asked (errors.Damaged file offset) fault = fault ≡ Some (damaged_at file offset)
RefusesFiles asked (errors.OtherShape found count) fault = (fault ≡ Some (other_shape found)) × (count ≡ asked.count)
RefusesFiles asked (errors.OtherFlows found given) fault = (fault ≡ Some (other_flows found)) × (given ≡ asked.digest)
RefusesFiles asked errors.SiteFault fault = Unit {0}
RefusesFiles asked errors.Memory fault = Unit {0}

-- a file isn't refused by its front
abbrev pub FitsFile : Asked → LogFile → Type 0
FitsFile asked Fresh = Unit {0}
FitsFile asked (Damaged offset) = ⊥
FitsFile asked (Log log) = (log.header.partitions ≡ asked.count) × (log.header.digest ≡ asked.digest)

-- one of the two files has a log, which begins at position 0, or none has
abbrev pub Ties : (first second : Option OpenedLog) → Type 0
Ties None None = Unit {0}
Ties (Some log) None = log.header.base ≡ 0
Ties None (Some log) = log.header.base ≡ 0
Ties (Some log) (Some other) = ⊥

-- two files aren't refused by their fronts
abbrev pub FitsFiles : Asked → LogFiles → Type 0
FitsFiles asked both = FitsFile asked both.first × FitsFile asked both.second × Ties (log_of both.first) (log_of both.second)

-- why two files are refused that each suit
abbrev pub tied_fault : (partition : ℕ) → (first second : Kept) → Option Refusal
tied_fault partition first second = or_else (same_base (second_log partition) first second) (or_else (late_base (first_log partition) first) (late_base (second_log partition) second))

-- the log that two files have by their fronts: it begins at position 0
abbrev pub Chooses : (first second chosen : Option OpenedLog) → Type 0
Chooses first second None = (first ≡ None) × (second ≡ None)
Chooses first second (Some log) = (log.header.base ≡ 0) × (((first ≡ Some log) × (second ≡ None)) ⊎ ((first ≡ None) × (second ≡ Some log)))

-- what a partition has in its files where its log in this file was read so
abbrev pub logs_with : (file : ℕ) → Result (List Entry × ℕ) ℕ → Logs
logs_with file (Ok read) = log_in file read.0 read.1
logs_with file (Err offset) = refused (damaged_at file offset)

-- The log of a partition that was opened: it is of this number of partitions, of these flows, and begins at position 0; and what is read of it
-- is what the partition has in its files.
pub record IsOwn (asked : Asked) (steps : List Step) (log : OpenedLog) : Type 0 where
  pub opened : IsOpenedLog steps log
  pub partition : log.header.partition ≡ asked.partition
  pub partitions : log.header.partitions ≡ asked.count
  pub digest : log.header.digest ≡ asked.digest
  pub base : log.header.base ≡ 0
  pub is : logs_in asked (λ file. content_of file steps) ≡ logs_with log.file (whole_of steps log)

-- a partition's log, or there is none yet
abbrev pub IsChosen : Asked → List Step → Option OpenedLog → Type 0
IsChosen asked steps None = logs_in asked (λ file. content_of file steps) ≡ no_log
IsChosen asked steps (Some log) = IsOwn asked steps log
