-- The entities of a chain of waits rise.
use Rattle.run_laws.proofs.Ordered.{never_circles}
use Rattle.run_laws.proofs.sections.no_circle.Goals as goal

pub returns : goal.returns
returns c = never_circles
