use Rattle.part_steps.specs.States.{state_of}
use Rattle.spec_cell.specs.Tasks.{pending_in}
use Rattle.spec_cell.proofs.tasks.give_out.Goals as goal

pub returns-in-Ok-clause-ahead : goal.returns-in-Ok-clause-ahead
returns-in-Ok-clause-ahead c = c.in-Ok.ensures.ahead (pending_in (state_of c.args.live.base)) c.requires.ahead c.requires.first.0
