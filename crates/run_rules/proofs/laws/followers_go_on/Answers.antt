use Rattle.run_rules.proofs.Going.{followed_made, followed_given}
use Rattle.run_rules.proofs.laws.followers_go_on.Goals as goal

pub returns-clause-made : goal.returns-clause-made
returns-clause-made c = followed_made

pub returns-clause-given : goal.returns-clause-given
returns-clause-given c = followed_given
