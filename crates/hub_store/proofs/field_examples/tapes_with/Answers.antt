use Rattle.hub_store.proofs.FactsLacking.{nobody_answered, not_unsaid}
use Rattle.hub_store.proofs.field_examples.tapes_with.Goals as goal

pub returns-clause-nothing : goal.returns-clause-nothing
returns-clause-nothing c = nobody_answered

pub returns-clause-unsaid : goal.returns-clause-unsaid
returns-clause-unsaid c = not_unsaid
