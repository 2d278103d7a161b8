use Rattle.std.proofs.Common.{refl}
use Rattle.worked_rows.proofs.homes.digests.Goals as goal

pub returns : goal.returns
returns c = refl
