-- What a cell holds is of the latest moment.
use Rattle.std.specs.Prelude.{◌≤◌, ℕ}
use Rattle.std.specs.List.{All}
use Rattle.many_rules.specs.Rules.{IsFrom}
use Rattle.spec_cell.specs.Views.{CellView}

-- This moment was handed to the cell, and none of the entries that it holds has an item of an earlier stamp: they were made since.
pub record IsFresh (latest : ℕ) (c : CellView) : Type 0 where
  pub heard : latest ≤ c.now
  pub held : All (λ e. All (IsFrom latest) e.items) c.entries
