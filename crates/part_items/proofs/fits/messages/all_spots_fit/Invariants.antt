-- Those so far are within the limits.
use Rattle.std.proofs.Common.{take}
use Rattle.std.specs.List.{All}
use Rattle.dura_value.specs.Views.{spot_of}
use Rattle.part_items.specs.Fits.{FitsSpot}
use Rattle.part_items.proofs.fits.messages.all_spots_fit.Given as goal

abbrev pub invariant-loop-spot : goal.invariant-loop-spot
invariant-loop-spot l = All (λ spot. FitsSpot (spot_of spot)) (take l.spot-index l.spots)
