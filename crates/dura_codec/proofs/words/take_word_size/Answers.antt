use Rattle.std.proofs.Common.{refl}
use Rattle.dura_codec.specs.Grammar.{word_size_at}
use Rattle.dura_codec.proofs.Steps.{leaves, between, outside}
use Rattle.dura_codec.proofs.words.take_word_size.Goals as goal

pub returns : goal.returns
unfolding word_size_at
returns c = rw (c.in_ok-size.ensures.takes, between c.in_ok-size.size 64 c.if-size-eq0.false c.if-size-gt-WORD_BYTES_LIMIT.false) refl

pub returns-in_err-size : goal.returns-in_err-size
unfolding word_size_at
returns-in_err-size c = leaves _ _ _ _ _ c.from_residual.ensures.1 c.in_err-size.ensures.takes

pub returns-then-size-eq0 : goal.returns-then-size-eq0
unfolding word_size_at
returns-then-size-eq0 c = rw (c.in_ok-size.ensures.takes, outside c.in_ok-size.size 64 c.then-size-eq0.either) refl
