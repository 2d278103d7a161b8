-- The other causes have a message under way.
use Rattle.run_laws.proofs.Ordered.{holder_inside}
use Rattle.run_laws.proofs.sections.held_inside.Goals as goal

pub returns : goal.returns
returns c = holder_inside
