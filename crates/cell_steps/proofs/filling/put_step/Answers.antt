use Rattle.cell_steps.proofs.Filled.{step_looks, step_longer}
use Rattle.cell_steps.proofs.Sides.{step_items}
use Rattle.cell_steps.proofs.filling.put_step.Goals as goal

pub returns-clause-on : goal.returns-clause-on
returns-clause-on g c = λ waits. step_looks (g.R.Reactions.flows c.args.reactions.now) c.args.now c.args.filling c.in_ok-next.next c.args.item c.requires.way c.in_ok-next.ensures.puts c.requires.enabled waits

pub returns-clause-one : goal.returns-clause-one
returns-clause-one g c = step_longer (g.R.Reactions.flows c.args.reactions.now) c.args.now c.args.filling c.in_ok-next.next c.args.item c.in_ok-next.ensures.puts c.requires.enabled

pub returns-clause-items : goal.returns-clause-items
returns-clause-items g c = step_items (g.R.Reactions.flows c.args.reactions.now) c.args.filling c.in_ok-next.next c.args.item _ c.in_ok-next.ensures.puts c.requires.enabled
