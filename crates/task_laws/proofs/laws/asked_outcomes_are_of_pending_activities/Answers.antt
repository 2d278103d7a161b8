use Rattle.task_laws.proofs.Pending.{asked_pending}
use Rattle.task_laws.proofs.laws.asked_outcomes_are_of_pending_activities.Goals as goal

pub returns : goal.returns
returns c = asked_pending
