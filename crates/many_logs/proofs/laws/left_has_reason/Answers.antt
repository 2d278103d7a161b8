use Rattle.many_logs.proofs.Unplaced.{left_has_reason, none_has_none}
use Rattle.many_logs.proofs.laws.left_has_reason.Goals as goal

pub returns-clause-left : goal.returns-clause-left
returns-clause-left c = left_has_reason

pub returns-clause-none : goal.returns-clause-none
returns-clause-none c = none_has_none
