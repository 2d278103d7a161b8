use Rattle.run_examples.proofs.Saying.{not_so_full, not_spent, spent}
use Rattle.run_examples.proofs.saying_examples.calls_halt.Goals as goal

pub returns-clause-spent : goal.returns-clause-spent
returns-clause-spent c = spent

pub returns-clause-not_spent : goal.returns-clause-not_spent
returns-clause-not_spent c = not_spent

pub returns-clause-not_full : goal.returns-clause-not_full
returns-clause-not_full c = not_so_full
