use Rattle.run_examples.proofs.Clocks.{goes_by_clock, read_again, too_early, too_full, too_late}
use Rattle.run_examples.proofs.clock_examples.calls_go_by_clocks.Goals as goal

pub returns-clause-goes : goal.returns-clause-goes
returns-clause-goes c = goes_by_clock

pub returns-clause-early : goal.returns-clause-early
returns-clause-early c = too_early

pub returns-clause-late : goal.returns-clause-late
returns-clause-late c = too_late

pub returns-clause-enough : goal.returns-clause-enough
returns-clause-enough c = read_again

pub returns-clause-crowded : goal.returns-clause-crowded
returns-clause-crowded c = too_full
