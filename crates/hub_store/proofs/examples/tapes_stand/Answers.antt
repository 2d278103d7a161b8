use Rattle.hub_store.proofs.AnswersWait.{stands_behind, not_before, stands_half, not_half_before, not_other_file}
use Rattle.hub_store.proofs.examples.tapes_stand.Goals as goal

pub returns-clause-behind : goal.returns-clause-behind
returns-clause-behind c = stands_behind 0

pub returns-clause-before : goal.returns-clause-before
returns-clause-before c = not_before

pub returns-clause-half : goal.returns-clause-half
returns-clause-half c = stands_half

pub returns-clause-half_before : goal.returns-clause-half_before
returns-clause-half_before c = not_half_before

pub returns-clause-other_file : goal.returns-clause-other_file
returns-clause-other_file c = not_other_file
