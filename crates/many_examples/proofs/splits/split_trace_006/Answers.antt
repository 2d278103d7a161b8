use Rattle.std.proofs.Common.{refl}
use Rattle.std.specs.Fmt.{digits}
use Rattle.flow_syntax.specs.Machine.{go_on}
use Rattle.many_examples.proofs.splits.split_trace_006.Goals as goal

pub returns-clause-over_2 : goal.returns-clause-over_2
unfolding go_on digits
returns-clause-over_2 c = (refl, refl, refl, refl)

pub returns-clause-over_3 : goal.returns-clause-over_3
unfolding go_on digits
returns-clause-over_3 c = (refl, refl, refl, refl)

pub returns-clause-over_4 : goal.returns-clause-over_4
unfolding go_on digits
returns-clause-over_4 c = (refl, refl, refl, refl)
