use Rattle.std.specs.Vec.{vec_len}
use Rattle.call_begins.proofs.ending.end_cells.Given as goal

-- the cells are let go of from the last on
abbrev pub invariant-cells : goal.invariant-cells
invariant-cells g l = Unit {0}

abbrev pub decreases-cells : goal.decreases-cells
decreases-cells g l = vec_len l.cells
