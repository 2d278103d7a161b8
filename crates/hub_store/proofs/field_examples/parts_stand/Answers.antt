use Rattle.hub_store.proofs.AnswersWait.{stands_half}
use Rattle.hub_store.proofs.FactsLacking.{not_wrong_byte}
use Rattle.hub_store.proofs.field_examples.parts_stand.Goals as goal

pub returns-clause-half : goal.returns-clause-half
returns-clause-half c = stands_half

pub returns-clause-other : goal.returns-clause-other
returns-clause-other c = not_wrong_byte
