use Rattle.std.proofs.Common.{refl}
use Rattle.dura_codec.specs.Grammar.{reply_at}
use Rattle.dura_codec.proofs.Steps.{stops, leaves}
use Rattle.dura_codec.proofs.ids.take_reply.Goals as goal

pub returns-in-0 : goal.returns-in-0
unfolding reply_at
returns-in-0 c = rw (c.in_ok-tag.ensures.takes, c.in-0.is) refl

pub returns-in-Ok : goal.returns-in-Ok
unfolding reply_at
returns-in-Ok c = rw (c.in_ok-tag.ensures.takes, c.in-1.is, c.in-Ok.ensures) refl

pub returns-in-Err : goal.returns-in-Err
unfolding reply_at
returns-in-Err c = rw (c.in_ok-tag.ensures.takes, c.in-1.is) (stops _ _ _ c.in-Err.ensures)

pub returns-in-Ok-take_request_number : goal.returns-in-Ok-take_request_number
unfolding reply_at
returns-in-Ok-take_request_number c = rw (c.in_ok-tag.ensures.takes, c.in-2.is, c.in-Ok-take_request_number.ensures) refl

pub returns-in-Err-take_request_number : goal.returns-in-Err-take_request_number
unfolding reply_at
returns-in-Err-take_request_number c = rw (c.in_ok-tag.ensures.takes, c.in-2.is) (stops _ _ _ c.in-Err-take_request_number.ensures)

pub returns-in_err-tag : goal.returns-in_err-tag
unfolding reply_at
returns-in_err-tag c = leaves _ _ _ _ _ c.from_residual.ensures.1 c.in_err-tag.ensures.takes
