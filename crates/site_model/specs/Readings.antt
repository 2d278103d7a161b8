-- What a clock gave.
use Rattle.std.specs.Prelude.{ℕ, ◌==◌, List, length, slice_index, if◌then◌else◌}

-- A stamp that a clock gave: to one who asked for the present one, or to one who waited until another.
pub data Reading : Type 0 where
  asked : (stamp : ℕ) → Reading
  waited : (until stamp : ℕ) → Reading

-- the stamp that it gave
abbrev pub stamp_of : Reading → ℕ
stamp_of (asked stamp) = stamp
stamp_of (waited until stamp) = stamp

-- the reading of a note: the stamp alone, or the stamp that was waited for and then the one that it gave
abbrev pub reading_of : List ℕ → Reading
reading_of numbers = if length numbers == 1 then asked (slice_index numbers 0) else waited (slice_index numbers 0) (slice_index numbers 1)
