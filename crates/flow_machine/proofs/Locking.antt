-- The lock that is asked for.
use Rattle.std.proofs.Common.{◌≡◌, ◌==◌, ◌<◌, ℕ, List, [], ◌∷◌, length, false, refl, arith}
use Rattle.dura_value.specs.Messages.{Spot, entity_at}
use Rattle.dura_value.specs.declared.spots.Spot.{Spot as OwnSpot}
use Rattle.dura_value.specs.Views.{spots_of}
use Rattle.flow_syntax.specs.Entity.{lock_goes_on}
use Rattle.flow_syntax.specs.Machine.{Machine, locking}

-- it goes to the first entity
pub to_first : (m : Machine) (task : ℕ) (set : List Spot) → 0 < length set → locking m task set (entity_at set 0) ≡ lock_goes_on m.id m.id task set 0 (entity_at set 0) ∷ []
to_first m task [] some = absurd (let none : 0 < 0 = some in omega (arith, none))
to_first m task (first ∷ more) some = refl

pub not_empty : (set : List OwnSpot) → (length set == 0) ≡ false → 0 < length (spots_of set)
not_empty [] is = absurd (cc is)
not_empty (first ∷ more) is = omega arith
