use Rattle.std.proofs.Common.{refl}
use Rattle.worked_rows.proofs.Timers.{go_in_order}
use Rattle.worked_rows.proofs.tables.timers.Goals as goal

pub returns-clause-stamps : goal.returns-clause-stamps
returns-clause-stamps c = (refl, refl, refl, refl, refl, refl, refl)

pub returns-clause-order : goal.returns-clause-order
returns-clause-order c = go_in_order
