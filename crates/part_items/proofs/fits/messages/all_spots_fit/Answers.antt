-- One more is within the limits, and so all are.
use Rattle.part_items.proofs.FitSpots.{one_more, whole}
use Rattle.part_items.proofs.fits.messages.all_spots_fit.Goals as goal

pub loop-spot-preserved : goal.loop-spot-preserved
loop-spot-preserved c = one_more _ c.loop-spot.spot-index c.spot-item.result c.loop-spot-test.true c.spot-item.is c.loop-spot.invariant c.every_spot_fits.ensures

pub returns : goal.returns
returns c = whole _ c.loop-spot.spot-index c.loop-spot-test.false c.loop-spot.invariant
