-- All cells, one for each partition, and the store beside them.
use Rattle.std.specs.Prelude.{◌≡◌, ℕ, true, List, Some}
use Rattle.std.specs.List.{All, slice_get, slice_set}
use Rattle.cell_frames.specs.Joined.{StoreView, Joined}
use Rattle.many_rules.specs.Rules.{Rules}
use Rattle.spec_cell.specs.Views.{CellView, HasFacts}

-- A partition's cell became another, which this says of both; the other cells stay.
pub record CellBecomes (partition : ℕ) (old new : List CellView) (Does : CellView → CellView → Type 0) : Type 0 where
  pub cell : CellView
  pub after : CellView
  pub there : slice_get old partition ≡ Some cell
  pub becomes : new ≡ slice_set old partition after
  pub does : Does cell after

-- each cell has a state, and is joined to the store
abbrev pub AllJoined : Rules → StoreView → List CellView → Type 0
AllJoined rules s cells = (partition : ℕ) (c : CellView) → slice_get cells partition ≡ Some c → (c.going ≡ true) × Joined rules s partition c

-- what is known of a cell that has a state is known of each of these that has one
abbrev pub AllKnown : Rules → List CellView → Type 0
AllKnown rules = All (λ c. c.going ≡ true → HasFacts rules.flows rules.count (rules.begin c.number) c)
