-- What the files of many partitions stand for.
use Rattle.std.specs.Prelude.{◌≡◌, ◌<◌, ℕ, List, [], Some}
use Rattle.dura_value.specs.Items.{Entry}
use Rattle.flow_syntax.specs.Syntax.{Flows}
use Rattle.dura_model.specs.Legal.{Legal}
use Rattle.dura_model.specs.Partition.{Partition, fresh, shown}
use Rattle.dura_model.specs.Steps.{Label}
use Rattle.part_items.specs.Logs.{Asked, logs_in, entries_in}
use Rattle.many_logs.specs.Labels.{AllGiven}
use Rattle.many_logs.specs.Placing.{Commit, of_partition, states_after, AllBelow, placed}

-- one of so many partitions, under the digest of the flows file
abbrev pub asked_at : (count digest partition : ℕ) → Asked
asked_at count digest partition = record { partition = partition; count = count; digest = digest }

-- The files stand for a run: each partition's log has entries, none of all these is left, and the states that they make show the world
-- after that run, which is legal.
pub record FilesStand (flows : Flows) (count digest : ℕ) (files : ℕ → List ℕ) (run : List Label) : Type 0 where
  pub logs : ℕ → List Entry
  pub kept : (partition : ℕ) → partition < count → entries_in (logs_in (asked_at count digest partition) files) ≡ Some (logs partition)
  pub none_left : (partition : ℕ) → partition < count → (placed flows count logs).left partition ≡ []
  pub legal : Legal flows run (shown flows count (placed flows count logs).states)

-- The files keep just these entries, each partition its own; they were accepted in this order, and each outcome is one that its activity may
-- give.
pub record AreKept (flows : Flows) (count digest : ℕ) (files : ℕ → List ℕ) (commits : List Commit) : Type 0 where
  pub below : AllBelow count commits
  pub kept : (partition : ℕ) → partition < count → entries_in (logs_in (asked_at count digest partition) files) ≡ Some (of_partition partition commits)
  pub states : ℕ → Partition
  pub made : states_after flows count fresh commits ≡ Some states
  pub given : AllGiven flows count fresh commits
