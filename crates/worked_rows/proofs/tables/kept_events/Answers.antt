use Rattle.std.proofs.Common.{refl}
use Rattle.worked_rows.proofs.tables.kept_events.Goals as goal

pub returns : goal.returns
returns c = (refl, refl, refl, refl, refl)
