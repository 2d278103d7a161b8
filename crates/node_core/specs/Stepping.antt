-- What a partition's turn makes of its cell.
use Rattle.std.specs.Prelude.{◌≡◌, ℕ, List, ◌++◌}
use Rattle.std.specs.declared.alloc.Global.{Global}
use Rattle.std.specs.declared.vec.Vec.{Vec}
use Rattle.cell_steps.specs.declared.mode.Mode.{Mode}
use Rattle.cell_waits.specs.Waits.{Waiting}
use Rattle.log_items.specs.declared.items.Packet.{Packet}
use Rattle.many_rules.specs.Rules.{Rules}
use Rattle.node_core.specs.declared.stepping.Stepped.{Stepped}
use Rattle.node_core.specs.declared.stepping.Stepped.TheVariants as steps
use Rattle.spec_cell.specs.Turns.{CellTurns}
use Rattle.spec_cell.specs.Views.{CellView}
use Rattle.spec_cell.specs.declared.cell.CellTurn.TheVariants as turns
use Rattle.world_steps.specs.Cells.{CellBecomes}

-- nothing changed but that more waits at the cell of a partition
abbrev pub OnlyWaits : (partition : ℕ) → (old new : List CellView) → Type 0
OnlyWaits partition old new = CellBecomes partition old new (λ c after. (more : List Waiting) × (after ≡ record c { waits = c.waits ++ more }))

-- what a turn of the cell came to
abbrev pub TurnsAs : Rules → Mode → (limit : ℕ) → Stepped → (c after : CellView) → Type 0
TurnsAs rules mode limit (steps.Turned position) c after = (packets : Vec Packet Global) × CellTurns rules.flows rules.count (rules.begin c.number) mode limit c (turns.Turned position packets) after
TurnsAs rules mode limit steps.Held c after = CellTurns rules.flows rules.count (rules.begin c.number) mode limit c turns.Held after
TurnsAs rules mode limit steps.Idle c after = CellTurns rules.flows rules.count (rules.begin c.number) mode limit c turns.Idle after
TurnsAs rules mode limit (steps.Spent number) c after = CellTurns rules.flows rules.count (rules.begin c.number) mode limit c (turns.Spent number) after

-- The cell of a partition made a turn, and no other changed.
abbrev pub TurnsPart : Rules → Mode → (limit partition : ℕ) → (old new : List CellView) → Stepped → Type 0
TurnsPart rules mode limit partition old new stepped = CellBecomes partition old new (TurnsAs rules mode limit stepped)
