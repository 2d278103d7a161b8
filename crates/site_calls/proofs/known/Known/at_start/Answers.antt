use Rattle.std.proofs.Common.{arith, refl}
use Rattle.site_calls.proofs.FirstSteps.{length-start_of}
use Rattle.site_calls.proofs.known.Known.at_start.Goals as goal

pub returns : goal.returns
returns c unseen = record { moment = omega (arith, length-start_of unseen.files); loose = refl; broken = refl }
