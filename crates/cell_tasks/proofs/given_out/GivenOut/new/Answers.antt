use Rattle.std.proofs.Common.{is_some}
use Rattle.cell_tasks.proofs.given_out.GivenOut.new.Goals as goal

pub returns-clause-none : goal.returns-clause-none
returns-clause-none c = λ i id task. is_some (c.new.ensures i id task)
