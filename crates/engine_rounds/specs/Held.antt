-- Cells that hold nothing, and hear of a moment.
use Rattle.std.specs.Prelude.{◌≡◌, ◌≤◌, ◌<◌, ℕ, max, List, [], Some}
use Rattle.std.specs.List.{slice_get}
use Rattle.spec_cell.specs.Views.{CellView}

-- none of them holds an entry
abbrev pub NoneHeld : List CellView → Type 0
NoneHeld cells = (partition : ℕ) (c : CellView) → slice_get cells partition ≡ Some c → c.entries ≡ []

-- each heard of this moment, and is as it was else
abbrev pub HaveHeard : (now : ℕ) → (old new : List CellView) → Type 0
HaveHeard now old new = (partition : ℕ) (c : CellView) → slice_get new partition ≡ Some c → (was : CellView) × (slice_get old partition ≡ Some was) × (c ≡ record was { now = max was.now now })

-- those before a place did, and the others are as they were
abbrev pub HeardBelow : (now at : ℕ) → (old new : List CellView) → Type 0
HeardBelow now at old new =
    (partition : ℕ) (c : CellView) → slice_get new partition ≡ Some c
    → (was : CellView) × (slice_get old partition ≡ Some was) × (partition < at → c ≡ record was { now = max was.now now }) × (at ≤ partition → c ≡ was)
