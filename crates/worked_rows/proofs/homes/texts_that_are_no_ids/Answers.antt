use Rattle.std.proofs.Common.{refl}
use Rattle.dura_value.specs.Reading.{id_in, pair_at}
use Rattle.worked_rows.proofs.homes.texts_that_are_no_ids.Goals as goal

pub returns : goal.returns
unfolding id_in pair_at
returns c = refl
