use Rattle.world_examples.proofs.Courses.{pass}
use Rattle.world_examples.proofs.lives.no_refusal_follows.Goals as goal

pub returns : goal.returns
returns c = pass
