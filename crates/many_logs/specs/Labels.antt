-- The labels of entries of many partitions.
use Rattle.std.specs.Prelude.{◌≡◌, ℕ, List, [], ◌∷◌, map, Some}
use Rattle.flow_syntax.specs.Syntax.{Flows}
use Rattle.dura_model.specs.Partition.{Partition, enter, with_part}
use Rattle.dura_model.specs.Steps.{Label}
use Rattle.dura_model.specs.Entries.{labels_in, AreGiven}
use Rattle.part_items.specs.Numbered.{Next, IsNumbered}
use Rattle.many_logs.specs.Placing.{commit_accepted, Commit, of_partition}

-- where a partition's log goes on
abbrev pub state_next : Partition → Next
state_next p = record { position = p.position; incarnation = p.incarnation }

-- the labels of entries, in their order
abbrev pub labels_of_commits : List Commit → List Label
labels_of_commits run = labels_in (map (λ one. one.entry) run)

-- each outcome among these is one that the activity may give that is pending where it comes
abbrev pub AllGiven : Flows → (count : ℕ) → (ℕ → Partition) → List Commit → Type 0
AllGiven flows count parts [] = Unit {0}
AllGiven flows count parts (one ∷ run) =
    AreGiven flows count (enter one.entry.incarnation (parts one.partition)) one.entry.items
    × ((next : Partition) → commit_accepted flows count parts one.partition one.entry ≡ Some next → AllGiven flows count (with_part parts one.partition next) run)

-- each entry stands where its partition's log goes on, and is of no earlier incarnation
abbrev pub AreNumbered : (ℕ → Partition) → List Commit → Type 0
AreNumbered parts run = (partition : ℕ) → IsNumbered (state_next (parts partition)) (of_partition partition run)
