-- A scalar was counted, or it is too long.
use Rattle.std.proofs.Common.{arith}
use Rattle.part_items.proofs.FitLists.{counted, all_more, too_long}
use Rattle.part_items.proofs.fits.values.list_fits.Goals as goal

pub returns-then-size-left : goal.returns-then-size-left
returns-then-size-left c =
    let place = c.loop-part in
    (λ e. absurd (cc e), λ fits. absurd (too_long _ place.part-index place.left _ c.part-item.result c.spelled_size-size.ensures.size c.if-size-left.true c.loop-part-test.true c.part-item.is place.invariant.0 fits))

pub loop-part-preserved : goal.loop-part-preserved
loop-part-preserved c =
    let place = c.loop-part in
    (counted _ place.part-index place.left _ c.part-item.result c.loop-part-test.true c.part-item.is place.invariant.0 (omega (arith, c.spelled_size-size.ensures.size)), all_more _ place.part-index c.part-item.result c.loop-part-test.true c.part-item.is place.invariant.1 c.spelled_size-size.ensures.fits)
