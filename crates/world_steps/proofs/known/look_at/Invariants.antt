use Rattle.std.specs.Prelude.{take}
use Rattle.world_steps.specs.Cells.{AllKnown}
use Rattle.world_steps.proofs.known.look_at.Given as goal

-- the cells so far are known
abbrev pub invariant-cells : goal.invariant-cells
invariant-cells g l = AllKnown g.M.Picked.rules (take l.cell-index l.cells)
