use Rattle.std.proofs.Common.{refl}
use Rattle.std.specs.Fmt.{digits}
use Rattle.flow_syntax.specs.Machine.{go_on}
use Rattle.worked_rows.proofs.runs.trace_023.Goals as goal

pub returns : goal.returns
unfolding go_on digits
returns c = (refl, refl, refl, refl)
