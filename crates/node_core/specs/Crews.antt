-- Which node has each partition at the beginning.
use Rattle.std.specs.Prelude.{ℕ, ◌%◌, ◌==◌, if◌then◌else◌, List, map}
use Rattle.std.specs.List.{range_with_len}

-- the node that comes next, as often as they go round
abbrev pub first_owner : (nodes partition : ℕ) → ℕ
first_owner nodes partition = if nodes == 0 then 0 else partition % nodes

-- of each of so many partitions
abbrev pub first_owners : (partitions nodes : ℕ) → List ℕ
first_owners partitions nodes = map (first_owner nodes) (range_with_len 0 partitions)
