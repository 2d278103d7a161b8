use Rattle.std.proofs.Common.{◌∙◌, sym, arith}
use Rattle.recover_core.proofs.LogsEnded.{ends_more, is_left}
use Rattle.recover_core.proofs.ending.first_left.Goals as goal

pub places-init : goal.places-init
places-init c = λ place course below at. absurd (omega (arith, below))

pub returns-then-not-has_ended : goal.returns-then-not-has_ended
returns-then-not-has_ended c = (
  c.places-test.true,
  c.places.invariant,
  is_left c.args.courses.now c.places.place c.index-courses-place.result (sym c.has_ended.ensures ∙ c.if-not-has_ended.true),
)

pub places-preserved : goal.places-preserved
places-preserved c = ends_more c.args.courses.now c.places.place c.index-courses-place.result c.places.invariant (sym c.has_ended.ensures ∙ c.if-not-has_ended.false)

pub returns : goal.returns
returns c = λ place course below at. let over = c.places-test.false in c.places.invariant place course (omega (arith, below, over)) at
