-- What a crash leaves while logs are opened.
use Rattle.std.specs.Prelude.{◌≡◌, ◌≢◌, ◌⊎◌, ℕ, ◌<◌, List, Some}
use Rattle.dura_value.specs.Items.{Entry}
use Rattle.flow_syntax.specs.Syntax.{Flows}
use Rattle.many_logs.specs.Placing.{Commit}
use Rattle.many_logs.specs.Stands.{asked_at, AreKept}
use Rattle.part_items.specs.Kept.{kept_in}
use Rattle.part_items.specs.Logs.{first_log, second_log, logs_of, entries_in}
use Rattle.site_model.specs.History.{Step, changes_of, content_of, tape, Leaves, IsImage}
use Rattle.site_model.specs.Moments.{Always}

-- it is no log file of the first so many partitions
abbrev pub IsNoLogFile : (count file : ℕ) → Type 0
IsNoLogFile count file = (partition : ℕ) → partition < count → (file ≢ first_log partition) × (file ≢ second_log partition)

-- Nothing is said, and a crash leaves what it could have left at the start, or files that keep the run's entries. Nothing happens to a
-- file that is no log's.
pub record IsOpening (flows : Flows) (count digest : ℕ) (run : List Commit) (old steps : List Step) : Type 0 where
  pub silent : tape steps ≡ tape old
  pub images : (image : ℕ → List ℕ) → IsImage steps image → IsImage old image ⊎ AreKept flows count digest image run
  pub others : (file : ℕ) → IsNoLogFile count file → changes_of file steps ≡ changes_of file old

-- so it goes from one moment to another, by each run whose entries the files kept
abbrev pub OpensOnly : Flows → (count digest : ℕ) → (old new : List Step) → Type 0
OpensOnly flows count digest old new = (run : List Commit) → AreKept flows count digest (λ file. content_of file old) run → Always (IsOpening flows count digest run old) old new

-- ---- one partition after another

-- whatever a crash leaves of a partition's log files, they keep these entries
abbrev pub KeepsAt : (count digest partition : ℕ) → List Entry → List Step → Type 0
KeepsAt count digest partition entries steps = (one two : List ℕ) → Leaves (changes_of (first_log partition) steps) one → Leaves (changes_of (second_log partition) steps) two
    → entries_in (logs_of (asked_at count digest partition) (kept_in partition one) (kept_in partition two)) ≡ Some entries

-- Of each partition a crash leaves its entries, nothing is said, and nothing happens to a file that is no log's.
pub record KeepsAll (count digest : ℕ) (logs : ℕ → List Entry) (old steps : List Step) : Type 0 where
  pub silent : tape steps ≡ tape old
  pub keeps : (partition : ℕ) → partition < count → KeepsAt count digest partition (logs partition) steps
  pub others : (file : ℕ) → IsNoLogFile count file → changes_of file steps ≡ changes_of file old
