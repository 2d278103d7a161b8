use Rattle.part_steps.specs.States.{state_of}
use Rattle.spec_cell.specs.Tasks.{pending_in}
use Rattle.spec_cell.proofs.CellFacts.{begins}
use Rattle.spec_cell.proofs.cell.Cell.new.Goals as goal

pub invariant_of-result : goal.invariant_of-result
invariant_of-result g c =
    begins g.S.Mine.flows g.S.Mine.count (g.S.Mine.begin (g.S.Mine.number c.args.seat)) (g.S.Mine.slot c.args.seat).mine (record { base = c.args.base; steps = c.new.result; incarnation = c.args.incarnation; waits = c.new-2.result; given = c.new-3.result }) c.new.ensures.items c.requires.sound c.requires.partitions c.requires.made
    c.requires.stamp c.requires.younger c.requires.room c.requires.low c.new-2.ensures.indexed c.new-2.ensures.none (c.new-3.ensures.anew (pending_in (state_of c.args.base)))
