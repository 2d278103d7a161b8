-- A turn of a cell by what the step says of it.
use Rattle.std.proofs.Common.{◌≡◌, ℕ, List, subst}
use Rattle.std.specs.declared.alloc.Global.{Global}
use Rattle.std.specs.declared.vec.Vec.{Vec}
use Rattle.cell_steps.specs.declared.mode.Mode.{Mode}
use Rattle.log_items.specs.declared.items.Packet.{Packet}
use Rattle.many_rules.specs.Rules.{Rules}
use Rattle.node_core.specs.Stepping.{TurnsAs}
use Rattle.node_core.specs.declared.stepping.Stepped.TheVariants as steps
use Rattle.spec_cell.specs.Turns.{CellTurns}
use Rattle.spec_cell.specs.Views.{CellView}
use Rattle.spec_cell.specs.declared.cell.CellTurn.{CellTurn}
use Rattle.spec_cell.specs.declared.cell.CellTurn.TheVariants as turns
use Rattle.world_steps.specs.Cells.{CellBecomes}

-- an entry was made, and sent this
pub turned_as : (rules : Rules) (mode : Mode) (limit p : ℕ) (old new : List CellView) (turn : CellTurn) (position : ℕ) (packets : Vec Packet Global) → turn ≡ turns.Turned position packets
    → CellBecomes p old new (λ c after. CellTurns rules.flows rules.count (rules.begin c.number) mode limit c turn after) → CellBecomes p old new (TurnsAs rules mode limit (steps.Turned position))
turned_as rules mode limit p old new turn position packets is b = record {
  cell = b.cell;
  after = b.after;
  there = b.there;
  becomes = b.becomes;
  does = (packets, subst (λ (t : CellTurn). CellTurns rules.flows rules.count (rules.begin b.cell.number) mode limit b.cell t b.after) is b.does);
}
