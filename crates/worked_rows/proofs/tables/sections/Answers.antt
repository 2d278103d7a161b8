use Rattle.std.proofs.Common.{refl}
use Rattle.worked_rows.proofs.tables.sections.Goals as goal

pub returns-clause-sets : goal.returns-clause-sets
returns-clause-sets c = (refl, refl, refl)

pub returns-clause-rules : goal.returns-clause-rules
returns-clause-rules c = (refl, refl, refl, refl, refl, refl, refl, refl, refl, refl, refl, refl)
