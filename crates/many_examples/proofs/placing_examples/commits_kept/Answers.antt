use Rattle.many_examples.proofs.Placings.{none_are_kept, taken_are_kept}
use Rattle.many_examples.proofs.placing_examples.commits_kept.Goals as goal

pub returns-clause-none : goal.returns-clause-none
returns-clause-none c = none_are_kept

pub returns-clause-taken : goal.returns-clause-taken
returns-clause-taken c = taken_are_kept
