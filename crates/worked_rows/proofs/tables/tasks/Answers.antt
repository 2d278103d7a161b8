use Rattle.std.proofs.Common.{refl}
use Rattle.worked_rows.proofs.tables.tasks.Goals as goal

pub returns-clause-results : goal.returns-clause-results
returns-clause-results c = (refl, refl, refl, refl, refl, refl, refl, refl, refl, refl, refl, refl, refl)

pub returns-clause-still_open : goal.returns-clause-still_open
returns-clause-still_open c = (refl, refl, refl, refl, refl, refl, refl, refl, refl)

pub returns-clause-handles : goal.returns-clause-handles
returns-clause-handles c = (refl, refl, refl, refl, refl, refl)
