use Rattle.std.proofs.Common.{refl}
use Rattle.dura_codec.specs.Grammar.{text_at}
use Rattle.dura_codec.proofs.Steps.{leaves, leaves_within, above}
use Rattle.dura_codec.proofs.Texts.{no_text, is_text, is_not_text, is_cut_text}
use Rattle.dura_codec.proofs.words.take_text.Goals as goal

pub returns-in-Ok-clause-takes : goal.returns-in-Ok-clause-takes
returns-in-Ok-clause-takes c =
    let good = rw c.split_at.ensures.front at c.in-Ok.ensures.text.1.0 in
    rw (c.in-Ok.ensures.text.0, c.split_at.ensures.front, c.split_at.ensures.back) (is_text _ _ _ c.in_ok-size.ensures.takes c.if-size-gt-TEXT_BYTES_LIMIT.false c.if-rest-size.false good)

pub returns-in-Err-NotUtf8-clause-takes : goal.returns-in-Err-NotUtf8-clause-takes
returns-in-Err-NotUtf8-clause-takes c =
    let bad = rw c.split_at.ensures.front at (no_text _ c.in-Err-NotUtf8.field-0 _ c.in-Err-NotUtf8.field-0-is c.in-Err-NotUtf8.ensures.fault) in
    is_not_text _ _ _ c.in_ok-size.ensures.takes c.if-size-gt-TEXT_BYTES_LIMIT.false c.if-rest-size.false bad

pub returns-in_err-size-clause-takes : goal.returns-in_err-size-clause-takes
unfolding text_at
returns-in_err-size-clause-takes c = leaves _ _ _ _ _ c.from_residual.ensures.1 c.in_err-size.ensures.takes

pub returns-in_err-size-clause-within : goal.returns-in_err-size-clause-within
returns-in_err-size-clause-within c = leaves_within _ _ _ c.from_residual.ensures.1 c.in_err-size.ensures.within

pub returns-then-rest-size-clause-takes : goal.returns-then-rest-size-clause-takes
returns-then-rest-size-clause-takes c = is_cut_text _ _ _ c.in_ok-size.ensures.takes c.if-size-gt-TEXT_BYTES_LIMIT.false c.if-rest-size.true

pub returns-then-size-gt-TEXT_BYTES_LIMIT-clause-takes : goal.returns-then-size-gt-TEXT_BYTES_LIMIT-clause-takes
unfolding text_at
returns-then-size-gt-TEXT_BYTES_LIMIT-clause-takes c = rw (c.in_ok-size.ensures.takes, above c.in_ok-size.size 4096 c.if-size-gt-TEXT_BYTES_LIMIT.true) refl
