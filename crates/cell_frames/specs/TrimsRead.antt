-- What a cell lets go of was read.
use Rattle.std.specs.Prelude.{◌≤◌, ℕ}
use Rattle.std.specs.List.{All}
use Rattle.dura_value.specs.Items.{Item, trim}
use Rattle.log_items.specs.Entries.{items_in}
use Rattle.spec_cell.specs.Views.{CellView}

-- what an item lets go of was read, where each partition has taken in so much of this one's stream to it
abbrev pub IsReadBy : (nexts : ℕ → ℕ) → Item → Type 0
IsReadBy nexts (trim reader number) = number ≤ nexts reader.partition
IsReadBy nexts other = Unit {0}

-- What a cell's entries that aren't settled let go of was read, and so was what its trims that wait would.
pub record TrimsRead (nexts : ℕ → ℕ) (c : CellView) : Type 0 where
  pub held : All (IsReadBy nexts) (items_in c.entries)
  pub waits : All (λ w. IsReadBy nexts w.item) c.waits
