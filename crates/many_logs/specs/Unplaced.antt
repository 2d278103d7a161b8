-- Why files are refused whose logs leave an entry: the lowest partition that has one left, and its first item that isn't accepted.
use Rattle.std.specs.Prelude.{ℕ, zero, suc, List, [], ◌∷◌, if◌then◌else◌, Option, Some, None, option_map}
use Rattle.dura_value.specs.Items.{Item, got, trim, Entry}
use Rattle.flow_syntax.specs.Syntax.{Flows}
use Rattle.dura_model.specs.Partition.{Partition, enter, accepted}
use Rattle.part_items.specs.Logs.{or_else}
use Rattle.many_logs.specs.Placing.{Commit, Placing, is_ready}

-- An entry's first item that isn't accepted breaks a rule by itself; or it takes in what another partition hasn't sent under this number,
-- or lets go of what another hasn't read as far as this number.
pub data Unplaced : Type 0 where
  illegal : (partition position : ℕ) → Unplaced
  unclosed : (partition position other number : ℕ) → Unplaced

abbrev pub unplaced_by : (partition position : ℕ) → Item → Unplaced
unplaced_by partition position (got source number message) = unclosed partition position source.partition number
unplaced_by partition position (trim reader number) = unclosed partition position reader.partition number
unplaced_by partition position item = illegal partition position

-- the item itself where it isn't accepted, else what is found behind it
abbrev pub or_behind : Item → Option Partition → (Partition → Option Item) → Option Item
or_behind item None behind = Some item
or_behind item (Some next) behind = behind next

-- the first of these items that isn't accepted, where those before it make this state
abbrev pub first_refused : Flows → (count : ℕ) → (ℕ → Partition) → (partition : ℕ) → Partition → List Item → Option Item
first_refused flows count parts partition p [] = None
first_refused flows count parts partition p (item ∷ items) =
    if is_ready parts partition item then or_behind item (accepted flows count p item) (λ next. first_refused flows count parts partition next items) else Some item

abbrev pub next_of : (partition : ℕ) → List Entry → Option Commit
next_of partition [] = None
next_of partition (entry ∷ entries) = Some (record { partition = partition; entry = entry })

-- the first entry that is left of the lowest of the first so many partitions that have one left
abbrev pub lowest_left : (most : ℕ) → Placing → Option Commit
lowest_left zero s = None
lowest_left (suc most) s = or_else (lowest_left most s) (next_of most (s.left most))

-- why an entry isn't placed; one without such an item has none
abbrev pub why : Flows → (count : ℕ) → (ℕ → Partition) → Commit → Option Unplaced
why flows count parts one =
    option_map (unplaced_by one.partition one.entry.position) (first_refused flows count parts one.partition (enter one.entry.incarnation (parts one.partition)) one.entry.items)

abbrev pub why_of : Flows → (count : ℕ) → (ℕ → Partition) → Option Commit → Option Unplaced
why_of flows count parts None = None
why_of flows count parts (Some one) = why flows count parts one

-- why entries are left, if any are
abbrev pub unplaced : Flows → (count : ℕ) → Placing → Option Unplaced
unplaced flows count s = why_of flows count s.states (lowest_left count s)
