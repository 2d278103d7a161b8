use Rattle.hub_store.proofs.AnswersWait.{stands_always, not_always, stands_whole}
use Rattle.hub_store.proofs.examples.moments_stand.Goals as goal

pub returns-clause-first : goal.returns-clause-first
returns-clause-first c = stands_always

pub returns-clause-last : goal.returns-clause-last
returns-clause-last c = not_always

pub returns-clause-end : goal.returns-clause-end
returns-clause-end c = stands_whole 2
