use Rattle.std.proofs.Common.{refl}
use Rattle.dura_value.specs.Reading.{id_in, pair_at}
use Rattle.worked_rows.proofs.homes.ids.Goals as goal

pub returns-clause-written : goal.returns-clause-written
returns-clause-written c = refl

pub returns-clause-read : goal.returns-clause-read
unfolding id_in pair_at
returns-clause-read c = refl

pub returns-clause-homes : goal.returns-clause-homes
returns-clause-homes c = refl

pub returns-clause-order : goal.returns-clause-order
returns-clause-order c = refl
