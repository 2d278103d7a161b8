-- What judging a cell changes.
use Rattle.std.specs.Prelude.{◌≡◌, ℕ}
use Rattle.cell_frames.specs.Beginning.{BeginsAt}
use Rattle.cell_frames.specs.Unlost.{floor_of}
use Rattle.many_rules.specs.Rules.{Rules}
use Rattle.spec_cell.specs.Moves.{CellRewinds}
use Rattle.spec_cell.specs.Views.{CellView}
use Rattle.spec_cell.specs.declared.moving.CellRewind.{CellRewind}
use Rattle.spec_cell.specs.declared.moving.CellRewind.TheVariants as rewinds
use Rattle.spec_tracker.specs.declared.marks.Marks.{Marks}
use Rattle.cell_frames.specs.Joined.{StoreView}

-- what the store has of a partition's incarnations once the cell was rewound: one more that begins there; else the same
abbrev pub KnowsRewind : (partition : ℕ) → (old new : StoreView) → CellRewind → (after : CellView) → Type 0
KnowsRewind partition old new (rewinds.Rewound floor dep) after = BeginsAt partition (floor_of after floor) old new
KnowsRewind partition old new other after = new ≡ old

-- The cell is rewound, or isn't, and the store knows of it.
abbrev pub Judges : Rules → (partition : ℕ) → Marks → (old new : StoreView) → (c : CellView) → CellRewind → (after : CellView) → Type 0
Judges rules partition marks old new c judged after = CellRewinds rules.flows rules.count (rules.begin partition) marks c judged after × KnowsRewind partition old new judged after
