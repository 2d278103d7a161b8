-- Entities that are each within the limits.
use Rattle.std.proofs.Common.{◌≡◌, ℕ, ◌+◌, ◌<◌, ◌≤◌, List, length, take, get_or, subst}
use Rattle.std.specs.List.{All}
use Rattle.std.proofs.lemmas.List.{take_all}
use Rattle.std.proofs.lemmas.List.Elements.{All-more, All-map}
use Rattle.dura_value.specs.declared.spots.Spot.{Spot}
use Rattle.dura_value.specs.Views.{spot_of, spots_of}
use Rattle.part_items.specs.Fits.{FitsSpot}

abbrev pub Fits : Spot → Type 0
Fits spot = FitsSpot (spot_of spot)

pub one_more : (spots : List Spot) (i : ℕ) (spot : Spot) → i < length spots → spot ≡ get_or spots i spot → All Fits (take i spots) → Fits spot → All Fits (take (i + 1) spots)
one_more spots i spot lt at before fits = All-more Fits spots i spot lt before (subst Fits at fits)

pub whole : (spots : List Spot) (i : ℕ) → length spots ≤ i → All Fits (take i spots) → All FitsSpot (spots_of spots)
whole spots i end each = All-map FitsSpot spot_of spots (subst (All Fits) (take_all i spots end) each)
