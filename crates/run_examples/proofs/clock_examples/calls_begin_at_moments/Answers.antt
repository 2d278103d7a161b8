use Rattle.run_examples.proofs.Clocks.{clock_failed, no_fault, no_moment}
use Rattle.run_examples.proofs.clock_examples.calls_begin_at_moments.Goals as goal

pub returns-clause-failed : goal.returns-clause-failed
returns-clause-failed c = clock_failed

pub returns-clause-settled : goal.returns-clause-settled
returns-clause-settled c = no_moment

pub returns-clause-cause : goal.returns-clause-cause
returns-clause-cause c = no_fault
