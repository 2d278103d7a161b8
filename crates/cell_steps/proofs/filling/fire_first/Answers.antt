use Rattle.cell_steps.proofs.Filled.{looks_still}
use Rattle.cell_steps.proofs.filling.fire_first.Goals as goal

pub returns-in_default-clause-on : goal.returns-in_default-clause-on
returns-in_default-clause-on g c = λ waits. looks_still (g.R.Reactions.flows c.args.reactions.now) c.args.now c.args.filling waits c.requires.way
