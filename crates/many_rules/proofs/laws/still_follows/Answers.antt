use Rattle.many_rules.proofs.Rules.{follows_still, follows_said, follows_settled, follows_later}
use Rattle.many_rules.proofs.laws.still_follows.Goals as goal

pub returns-clause-still : goal.returns-clause-still
returns-clause-still c = follows_still

pub returns-clause-said : goal.returns-clause-said
returns-clause-said c = follows_said

pub returns-clause-settled : goal.returns-clause-settled
returns-clause-settled c = follows_settled

pub returns-clause-later : goal.returns-clause-later
returns-clause-later c = follows_later
