use Rattle.std.proofs.Common.{refl}
use Rattle.flow_syntax.specs.Machine.{go_on}
use Rattle.worked_rows.proofs.deliveries.to_a_client.Goals as goal

pub returns : goal.returns
unfolding go_on
returns c = (refl, refl, refl, refl, refl)
