use Rattle.task_laws.proofs.Behind.{fresh_asked, accepted_asked, placed_asked}
use Rattle.task_laws.proofs.laws.pending_activities_were_asked.Goals as goal

pub returns-clause-begins : goal.returns-clause-begins
returns-clause-begins c = fresh_asked

pub returns-clause-item : goal.returns-clause-item
returns-clause-item c = accepted_asked

pub returns-clause-entries : goal.returns-clause-entries
returns-clause-entries c = placed_asked
