use Rattle.std.proofs.Common.{refl}
use Rattle.dura_codec.specs.Grammar.{raise_at}
use Rattle.dura_codec.proofs.Steps.{stops, leaves}
use Rattle.dura_codec.proofs.messages.take_raise.Goals as goal

pub returns-in-Ok : goal.returns-in-Ok
unfolding raise_at
returns-in-Ok c = let number = rw c.in-Ok.ensures.ok.0 at c.take_request_number.ensures in rw (c.in_ok-event.ensures, c.in_ok-value.ensures, number, c.in-Ok.ensures.ok.1) refl

pub returns-in-Err : goal.returns-in-Err
unfolding raise_at
returns-in-Err c = let number = rw c.in-Err.ensures.err at c.take_request_number.ensures in rw (c.in_ok-event.ensures, c.in_ok-value.ensures) (stops _ _ _ number)

pub returns-in_err-event : goal.returns-in_err-event
unfolding raise_at
returns-in_err-event c = leaves _ _ _ _ _ c.from_residual.ensures.1 c.in_err-event.ensures

pub returns-in_err-value : goal.returns-in_err-value
unfolding raise_at
returns-in_err-value c = rw c.in_ok-event.ensures (leaves _ _ _ _ _ c.from_residual-in_err-value.ensures.1 c.in_err-value.ensures)
