-- What stands at the fronts of log files, and what opening them leaves.
use Rattle.std.specs.Prelude.{◌≡◌, ◌⊎◌, ℕ, zero, suc, ◌≤◌, ◌<◌, List, [], ◌∷◌, length, Some}
use Rattle.std.specs.List.{slice_get}
use Rattle.site_model.specs.History.{Step, on, synced}
use Rattle.commit_log.specs.Segment.{first_gate}
use Rattle.commit_log.specs.Frames.{fresh, damaged, headed, opening_of, HasRead}
use Rattle.part_items.specs.Logs.{first_log, second_log}
use Rattle.log_files.specs.declared.opening.LogFile.{LogFile}
use Rattle.log_files.specs.declared.opening.LogFile.TheVariants.{Fresh, Damaged, Log}
use Rattle.log_files.specs.declared.opening.LogFiles.{LogFiles}

-- this stands at the front of a partition's log file that has this content
abbrev pub IsFront : (partition : ℕ) → (content : List ℕ) → (file : ℕ) → LogFile → Type 0
IsFront partition content file Fresh = opening_of partition content ≡ fresh
IsFront partition content file (Damaged offset) = opening_of partition content ≡ damaged offset
IsFront partition content file (Log log) = (opening_of partition content ≡ headed log.header) × (log.file ≡ file) × HasRead content log.header [] first_gate × (log.size ≡ length content)

-- and of both its files
abbrev pub AreFronts : (files : ℕ → List ℕ) → (partition : ℕ) → LogFiles → Type 0
AreFronts files partition both =
    IsFront partition (files (first_log partition)) (first_log partition) both.first × IsFront partition (files (second_log partition)) (second_log partition) both.second

-- and of those of all partitions
abbrev pub AllFronts : (files : ℕ → List ℕ) → List LogFiles → Type 0
AllFronts files fronts = (partition : ℕ) (both : LogFiles) → slice_get fronts partition ≡ Some both → AreFronts files partition both

-- the log files of the first so many partitions were synced, in the order of their numbers
abbrev pub synced_to : (count : ℕ) → List Step → List Step
synced_to zero steps = steps
synced_to (suc partition) steps = on (second_log partition) synced ∷ on (first_log partition) synced ∷ synced_to partition steps

-- some of them were, the first first, and nothing else happened
abbrev pub AreSyncs : (count : ℕ) → (old new : List Step) → Type 0
AreSyncs count old new = (most : ℕ) × (most ≤ count) × ((new ≡ synced_to most old) ⊎ ((most < count) × (new ≡ on (first_log most) synced ∷ synced_to most old)))
