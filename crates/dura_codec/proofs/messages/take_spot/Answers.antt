use Rattle.std.proofs.Common.{refl}
use Rattle.dura_codec.specs.Grammar.{spot_at}
use Rattle.dura_codec.proofs.Steps.{stops, leaves}
use Rattle.dura_codec.proofs.messages.take_spot.Goals as goal

pub returns-in-Ok : goal.returns-in-Ok
unfolding spot_at
returns-in-Ok c = rw (c.in_ok-class.ensures, c.in-Ok.ensures) refl

pub returns-in-Err : goal.returns-in-Err
unfolding spot_at
returns-in-Err c = rw c.in_ok-class.ensures (stops _ _ _ c.in-Err.ensures)

pub returns-in_err-class : goal.returns-in_err-class
unfolding spot_at
returns-in_err-class c = leaves _ _ _ _ _ c.from_residual.ensures.1 c.in_err-class.ensures
