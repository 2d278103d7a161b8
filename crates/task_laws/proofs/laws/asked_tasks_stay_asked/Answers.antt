use Rattle.task_laws.proofs.Behind.{accepted_more, placed_more}
use Rattle.task_laws.proofs.laws.asked_tasks_stay_asked.Goals as goal

pub returns-clause-item : goal.returns-clause-item
returns-clause-item c = accepted_more

pub returns-clause-entries : goal.returns-clause-entries
returns-clause-entries c = placed_more
