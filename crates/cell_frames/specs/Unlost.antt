-- What no incarnation gave up of what a cell holds.
use Rattle.std.specs.Prelude.{◌≤◌, ℕ, List}
use Rattle.std.specs.List.{All}
use Rattle.commit_gate.specs.Unlost.{IsFrameUnlost}
use Rattle.dura_value.specs.Items.{Floor}
use Rattle.spec_cell.specs.Views.{CellView}

-- No incarnation gave up an entry that the cell holds, of which the first stands at this position; and none is later than that in which
-- the cell makes entries.
pub record HoldsUnlost (position : ℕ) (floors : List Floor) (c : CellView) : Type 0 where
  pub unlost : IsFrameUnlost position floors c.entries
  pub latest : All (λ floor. floor.incarnation ≤ c.incarnation) floors

-- where the cell's new incarnation began
abbrev pub floor_of : CellView → (from : ℕ) → Floor
floor_of c from = record { partition = c.number; incarnation = c.incarnation; from = from }
