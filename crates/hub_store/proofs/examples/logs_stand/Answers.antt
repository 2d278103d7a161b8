use Rattle.hub_store.proofs.LogsStand.{empty_stands, not_settled, not_without_frame}
use Rattle.hub_store.proofs.examples.logs_stand.Goals as goal

pub returns-clause-empty : goal.returns-clause-empty
returns-clause-empty c = empty_stands

pub returns-clause-settled : goal.returns-clause-settled
returns-clause-settled c = not_settled

pub returns-clause-no_frame : goal.returns-clause-no_frame
returns-clause-no_frame c = not_without_frame
