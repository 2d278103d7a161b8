-- When the states of all partitions are at rest.
use Rattle.std.specs.Prelude.{ℕ, ◌+◌, ◌<◌, ◌≤◌, length}
use Rattle.dura_model.specs.Partition.{Partition}
use Rattle.part_steps.specs.Quiet.{IsQuiet}

-- The reader took in all of the stream from the source.
abbrev pub HasRead : (ℕ → Partition) → (source reader : ℕ) → Type 0
HasRead parts source reader = ((parts source).outboxes reader).first + length ((parts source).outboxes reader).messages ≤ ((parts reader).inboxes source).next

-- So many partitions are at rest.
pub record AreAtRest (count : ℕ) (parts : ℕ → Partition) : Type 0 where
  -- nothing is possible in any of them without a request
  pub quiet : (place : ℕ) → place < count → IsQuiet (parts place)
  -- nothing is on its way from one to another
  pub read : (source reader : ℕ) → source < count → reader < count → HasRead parts source reader
