use Rattle.hub_store.proofs.FactsLacking.{not_of_nobody}
use Rattle.hub_store.specs.Moments.SaidSoFar.{silent}
use Rattle.hub_store.proofs.field_examples.nothing_told.Goals as goal

pub returns-clause-silent : goal.returns-clause-silent
returns-clause-silent c = silent

pub returns-clause-line : goal.returns-clause-line
returns-clause-line c = not_of_nobody
