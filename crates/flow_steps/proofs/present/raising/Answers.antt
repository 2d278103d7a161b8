use Rattle.flow_steps.proofs.present.raising.Goals as goal

pub returns : goal.returns
returns c = (c.in_ok-before.ensures, c.in_ok-event.ensures)
