use Rattle.std.proofs.Common.{refl}
use Rattle.dura_codec.specs.Grammar.{start_at}
use Rattle.dura_codec.proofs.Steps.{stops, leaves}
use Rattle.dura_codec.proofs.messages.take_start.Goals as goal

pub returns-in-Ok : goal.returns-in-Ok
unfolding start_at
returns-in-Ok c = let reply = rw c.in-Ok.ensures.ok.0 at c.take_reply.ensures in rw (c.in_ok-argument.ensures, reply, c.in-Ok.ensures.ok.1) refl

pub returns-in-Err : goal.returns-in-Err
unfolding start_at
returns-in-Err c = let reply = rw c.in-Err.ensures.err at c.take_reply.ensures in rw c.in_ok-argument.ensures (stops _ _ _ reply)

pub returns-in_err-argument : goal.returns-in_err-argument
unfolding start_at
returns-in_err-argument c = leaves _ _ _ _ _ c.from_residual.ensures.1 c.in_err-argument.ensures
