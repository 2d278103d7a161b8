-- The state of a partition.
use Rattle.std.specs.Prelude.{◌≡◌, ℕ, ◌<◌, List, length, map, slice_index_or}
use Rattle.part_rows.specs.Timers.{InOrder}
use Rattle.dura_model.specs.Partition.{Partition, fresh}
use Rattle.dura_model.specs.Placed.{Belongs, AreOfInstances}
use Rattle.part_rows.specs.Parts.{part_of}
use Rattle.part_rows.specs.declared.parts.PartRows.{PartRows}
use Rattle.part_steps.specs.declared.state.PartState.{PartState}

-- What rows need to be the state of a partition among so many.
pub record AreSound (rows : PartRows) : Type 0 where
  -- its timers are listed in order
  pub order : InOrder rows.timers
  -- it is one of so many
  pub below : rows.number < rows.partitions
  -- all in it belongs here, and nothing is of a later stamp than its own
  pub belongs : Belongs rows.partitions rows.number (part_of rows)
  -- what is pending is of instances that are there
  pub owned : AreOfInstances (part_of rows)

abbrev pub IsSound : PartState → Type 0
IsSound s = AreSound s.rows

-- all that the partition knows
abbrev pub state_of : PartState → Partition
state_of s = part_of s.rows

-- how many partitions there are
abbrev pub count_of : PartState → ℕ
count_of s = s.rows.partitions

-- the partition of each number: what the state at its place knows, and behind these states nothing
abbrev pub parts_in : List PartState → ℕ → Partition
parts_in states place = slice_index_or (map state_of states) place (fresh place)

-- A state of one of so many partitions, whose number is this.
pub record IsStateOf (count place : ℕ) (s : PartState) : Type 0 where
  pub sound : IsSound s
  pub among : count_of s ≡ count
  pub number : (state_of s).number ≡ place

-- The states of all partitions, of which there is one at least, in the order of their numbers.
pub record AreStatesOfAll (states : List PartState) : Type 0 where
  pub some : 0 < length states
  pub each : (place : ℕ) (d : PartState) → place < length states → IsStateOf (length states) place (slice_index_or states place d)
