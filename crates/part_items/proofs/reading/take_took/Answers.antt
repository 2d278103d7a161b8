use Rattle.std.proofs.Common.{refl}
use Rattle.part_items.specs.Grammar.{took_at}
use Rattle.dura_codec.proofs.Steps.{stops}
use Rattle.part_items.proofs.reading.take_took.Goals as goal

pub returns-in-Ok : goal.returns-in-Ok
unfolding took_at
returns-in-Ok c = rw c.in-Ok.ensures refl

pub returns-in-Err : goal.returns-in-Err
unfolding took_at
returns-in-Err c = stops _ _ _ c.in-Err.ensures
