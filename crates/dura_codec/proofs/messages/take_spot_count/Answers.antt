use Rattle.std.proofs.Common.{refl}
use Rattle.dura_codec.specs.Grammar.{spot_count_at}
use Rattle.dura_codec.proofs.Steps.{leaves, at_most, above}
use Rattle.dura_codec.proofs.messages.take_spot_count.Goals as goal

pub returns : goal.returns
unfolding spot_count_at
returns c = rw (c.in_ok-count.ensures.takes, at_most c.in_ok-count.count 16 c.if-count-gt-SPOTS_LIMIT.false) refl

pub returns-in_err-count : goal.returns-in_err-count
unfolding spot_count_at
returns-in_err-count c = leaves _ _ _ _ _ c.from_residual.ensures.1 c.in_err-count.ensures.takes

pub returns-then-count-gt-SPOTS_LIMIT : goal.returns-then-count-gt-SPOTS_LIMIT
unfolding spot_count_at
returns-then-count-gt-SPOTS_LIMIT c = rw (c.in_ok-count.ensures.takes, above c.in_ok-count.count 16 c.if-count-gt-SPOTS_LIMIT.true) refl
