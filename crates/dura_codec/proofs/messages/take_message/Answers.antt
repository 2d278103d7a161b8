use Rattle.dura_codec.specs.Grammar.{message_at}
use Rattle.dura_codec.proofs.Steps.{stops, leaves}
use Rattle.dura_codec.proofs.messages.take_message.Goals as goal

pub returns-in-Err : goal.returns-in-Err
unfolding message_at
returns-in-Err c =
    let carried = rw c.in-Err.ensures.err at c.with-2.ensures.err in
    let body = rw carried at c.take_body.ensures in
    let to = rw c.in_ok-to.ensures.ok.0 at c.take_id-2.ensures in
    rw (c.in_ok-from.ensures, to) (stops _ _ _ body)

pub returns-in_err-from : goal.returns-in_err-from
unfolding message_at
returns-in_err-from c = leaves _ _ _ _ _ c.from_residual.ensures.1 c.in_err-from.ensures

pub returns-in_err-to : goal.returns-in_err-to
unfolding message_at
returns-in_err-to c = let to = rw c.in_err-to.ensures.err at c.take_id-2.ensures in rw c.in_ok-from.ensures (leaves _ _ _ _ _ c.from_residual-in_err-to.ensures.1 to)
