use Rattle.std.proofs.Common.{refl}
use Rattle.worked_rows.proofs.tables.activities.Goals as goal

pub returns-clause-sums : goal.returns-clause-sums
returns-clause-sums c = refl

pub returns-clause-joins : goal.returns-clause-joins
returns-clause-joins c = refl

pub returns-clause-draws : goal.returns-clause-draws
returns-clause-draws c = refl

pub returns-clause-others : goal.returns-clause-others
returns-clause-others c = refl
