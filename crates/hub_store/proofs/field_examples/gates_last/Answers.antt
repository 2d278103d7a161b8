use Rattle.hub_store.proofs.FactsLacking.{gate_written, not_body, not_elsewhere, not_unsettled}
use Rattle.hub_store.proofs.field_examples.gates_last.Goals as goal

pub returns-clause-opened : goal.returns-clause-opened
returns-clause-opened c = gate_written

pub returns-clause-body : goal.returns-clause-body
returns-clause-body c = not_body

pub returns-clause-elsewhere : goal.returns-clause-elsewhere
returns-clause-elsewhere c = not_elsewhere

pub returns-clause-unsettled : goal.returns-clause-unsettled
returns-clause-unsettled c = not_unsettled
