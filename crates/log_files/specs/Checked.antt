-- What log files keep that were opened and read to their ends.
use Rattle.std.specs.Prelude.{◌≡◌, ℕ, ◌<◌, List, Option, Some, None, Result, Ok, Err}
use Rattle.std.specs.List.{slice_get}
use Rattle.site_model.specs.History.{Step, content_of}
use Rattle.commit_log.specs.Frames.{fresh, damaged, headed, opening_of}
use Rattle.commit_log.specs.declared.reader.FrameError.{FrameError}
use Rattle.commit_log.specs.declared.reader.FrameError.TheVariants as unread
use Rattle.commit_log.specs.declared.reader.OpenedLog.{OpenedLog}
use Rattle.dura_value.specs.Items.{Entry}
use Rattle.part_items.specs.Kept.{broken, kept_in}
use Rattle.part_items.specs.Logs.{Asked, Logs, refused, damaged_at, other_shape, other_flows, fault_of, first_log, second_log, logs_in, entries_in}
use Rattle.log_files.specs.Entries.{IsOpenedLog, whole_of}
use Rattle.log_files.specs.Fitting.{kept_as, kept_behind, FitsFiles, RefusesFiles}
use Rattle.log_files.specs.declared.error.FilesError.{FilesError}
use Rattle.log_files.specs.declared.error.FilesError.TheVariants as errors
use Rattle.log_files.specs.declared.opening.LogFile.{LogFile}
use Rattle.log_files.specs.declared.opening.LogFile.TheVariants.{Fresh, Damaged, Log}
use Rattle.log_files.specs.declared.opening.LogFiles.{LogFiles}

-- a partition's log file was synced, and this stands at its front
abbrev pub IsOpen : List Step → (partition file : ℕ) → LogFile → Type 0
IsOpen steps partition file Fresh = opening_of partition (content_of file steps) ≡ fresh
IsOpen steps partition file (Damaged offset) = opening_of partition (content_of file steps) ≡ damaged offset
IsOpen steps partition file (Log log) = (opening_of partition (content_of file steps) ≡ headed log.header) × (log.file ≡ file) × IsOpenedLog steps log

-- and so were both its files
abbrev pub AreOpen : List Step → (partition : ℕ) → LogFiles → Type 0
AreOpen steps partition both = IsOpen steps partition (first_log partition) both.first × IsOpen steps partition (second_log partition) both.second

-- and those of all partitions
abbrev pub AllOpen : List Step → List LogFiles → Type 0
AllOpen steps fronts = (partition : ℕ) (both : LogFiles) → slice_get fronts partition ≡ Some both → AreOpen steps partition both

-- a log was read to its end
abbrev pub IsReadWhole : {X : Type 0} → List Step → OpenedLog → Result X FrameError → Type 0
IsReadWhole steps log (Ok x) = (entries : List Entry) × (gate : ℕ) × (whole_of steps log ≡ Ok (entries, gate))
IsReadWhole steps log (Err (unread.Damaged offset)) = whole_of steps log ≡ Err offset
IsReadWhole steps log (Err unread.SiteFault) = Unit {0}
IsReadWhole steps log (Err unread.Memory) = Unit {0}

-- what a file keeps, if it was read to its end, and else the first byte that is wrong
abbrev pub IsChecked : {X : Type 0} → List Step → (partition file : ℕ) → LogFile → Result X FilesError → Type 0
IsChecked steps partition file found (Ok x) = (entries : List Entry) × (gate : ℕ) × (kept_in partition (content_of file steps) ≡ kept_behind entries gate found)
IsChecked steps partition file found (Err (errors.Damaged other offset)) = (other ≡ file) × (kept_in partition (content_of file steps) ≡ broken offset)
IsChecked steps partition file found (Err (errors.OtherShape other count)) = ⊥
IsChecked steps partition file found (Err (errors.OtherFlows other given)) = ⊥
IsChecked steps partition file found (Err errors.SiteFault) = Unit {0}
IsChecked steps partition file found (Err errors.Memory) = Unit {0}

-- a file suits, and this is what it keeps; or it is refused
abbrev pub Suits : Asked → List Step → (file : ℕ) → Result (Option OpenedLog) FilesError → Type 0
Suits asked steps file (Ok log) = (entries : List Entry) × (gate : ℕ) × (kept_in asked.partition (content_of file steps) ≡ kept_as entries gate log) × (fault_of asked file (kept_as entries gate log) ≡ None)
Suits asked steps file (Err error) = RefusesFiles asked error (fault_of asked file (kept_in asked.partition (content_of file steps)))

-- log files are refused as an error says it, unless the disk failed or memory ran out
abbrev pub RefusesLogs : Asked → FilesError → Logs → Type 0
RefusesLogs asked (errors.Damaged file offset) logs = logs ≡ refused (damaged_at file offset)
RefusesLogs asked (errors.OtherShape found count) logs = (logs ≡ refused (other_shape found)) × (count ≡ asked.count)
RefusesLogs asked (errors.OtherFlows found given) logs = (logs ≡ refused (other_flows found)) × (given ≡ asked.digest)
RefusesLogs asked errors.SiteFault logs = Unit {0}
RefusesLogs asked errors.Memory logs = Unit {0}

-- a partition's log files aren't refused
abbrev pub HasEntries : Logs → Type 0
HasEntries logs = (entries : List Entry) × (entries_in logs ≡ Some entries)

abbrev pub SaysLogs : {X : Type 0} → Asked → (files : ℕ → List ℕ) → Result X FilesError → Type 0
SaysLogs asked files (Ok x) = HasEntries (logs_in asked files)
SaysLogs asked files (Err error) = RefusesLogs asked error (logs_in asked files)

-- which of so many partitions is asked for
abbrev pub asked_for : (count digest partition : ℕ) → Asked
asked_for count digest partition = record { partition = partition; count = count; digest = digest }

-- The lowest partition whose log files are refused is refused for this, unless the disk failed or memory ran out.
pub record RefusesFirst (count digest : ℕ) (files : ℕ → List ℕ) (error : FilesError) : Type 0 where
  pub partition : ℕ
  pub below : partition < count
  pub lower : (other : ℕ) → other < partition → HasEntries (logs_in (asked_for count digest other) files)
  pub refused : RefusesLogs (asked_for count digest partition) error (logs_in (asked_for count digest partition) files)

abbrev pub SaysAll : {X : Type 0} → (count digest : ℕ) → (files : ℕ → List ℕ) → Result X FilesError → Type 0
SaysAll count digest files (Ok x) = (partition : ℕ) → partition < count → HasEntries (logs_in (asked_for count digest partition) files)
SaysAll count digest files (Err error) = RefusesFirst count digest files error

-- none of the partitions is refused by its files' fronts
abbrev pub FitAll : (count digest : ℕ) → List LogFiles → Type 0
FitAll count digest fronts = (partition : ℕ) (both : LogFiles) → slice_get fronts partition ≡ Some both → FitsFiles (asked_for count digest partition) both
