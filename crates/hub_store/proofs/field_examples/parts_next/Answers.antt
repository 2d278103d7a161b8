use Rattle.hub_store.proofs.FactsLacking.{half_next, not_silent, not_before, not_other}
use Rattle.hub_store.proofs.field_examples.parts_next.Goals as goal

pub returns-clause-half : goal.returns-clause-half
returns-clause-half c = half_next

pub returns-clause-silent : goal.returns-clause-silent
returns-clause-silent c = not_silent

pub returns-clause-before : goal.returns-clause-before
returns-clause-before c = not_before

pub returns-clause-other : goal.returns-clause-other
returns-clause-other c = not_other
