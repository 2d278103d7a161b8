use Rattle.std.proofs.Common.{refl}
use Rattle.dura_codec.specs.Grammar.{outcome_at}
use Rattle.dura_codec.proofs.Steps.{stops, leaves}
use Rattle.dura_codec.proofs.messages.take_outcome.Goals as goal

pub returns-in-Ok : goal.returns-in-Ok
unfolding outcome_at
returns-in-Ok c = rw (c.in_ok-tag.ensures.takes, c.in-0.is, c.in-Ok.ensures) refl

pub returns-in-Err : goal.returns-in-Err
unfolding outcome_at
returns-in-Err c = rw (c.in_ok-tag.ensures.takes, c.in-0.is) (stops _ _ _ c.in-Err.ensures)

pub returns-in-Ok-take_text : goal.returns-in-Ok-take_text
unfolding outcome_at
returns-in-Ok-take_text c = rw (c.in_ok-tag.ensures.takes, c.in-1.is, c.in-Ok-take_text.ensures.takes) refl

pub returns-in-Err-take_text : goal.returns-in-Err-take_text
unfolding outcome_at
returns-in-Err-take_text c = rw (c.in_ok-tag.ensures.takes, c.in-1.is) (stops _ _ _ c.in-Err-take_text.ensures.takes)

pub returns-in_err-tag : goal.returns-in_err-tag
unfolding outcome_at
returns-in_err-tag c = leaves _ _ _ _ _ c.from_residual.ensures.1 c.in_err-tag.ensures.takes
