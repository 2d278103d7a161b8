use Rattle.std.proofs.Common.{◌≡◌, take}
use Rattle.log_items.specs.Plain.{entries_of}
use Rattle.cell_steps.specs.Steps.{entries_in}
use Rattle.spec_cell.proofs.picking.copy_front.Given as goal

-- the entries before are copied
abbrev pub invariant-loop-place : goal.invariant-loop-place
invariant-loop-place l = entries_of l.copies.items ≡ entries_in (take l.place l.steps)
