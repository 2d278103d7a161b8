use Rattle.task_laws.proofs.Behind.{accepted_pending, placed_pending}
use Rattle.task_laws.proofs.laws.asked_tasks_are_never_pending_again.Goals as goal

pub returns-clause-item : goal.returns-clause-item
returns-clause-item c = accepted_pending

pub returns-clause-entries : goal.returns-clause-entries
returns-clause-entries c = placed_pending
