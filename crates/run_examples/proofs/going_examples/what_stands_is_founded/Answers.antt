use Rattle.run_examples.proofs.Founded.{founded_follows}
use Rattle.run_examples.proofs.going_examples.what_stands_is_founded.Goals as goal

pub returns : goal.returns
returns c = founded_follows
