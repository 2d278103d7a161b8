-- Entries in the order of their places.
use Rattle.std.specs.Prelude.{◌≡◌, Bool, true, false, cond, List, [], ◌∷◌, Option, None, Some, option_map, is_some, if◌then◌else◌}
use Rattle.std.specs.Option.{option_or}
use Rattle.shared_trees.specs.Places.{Place, is_before, is_same}

-- what is kept, place by place; an entry may be without a value
abbrev pub Entries : Type 0 → Type 0
Entries X = List (Place × Option X)

-- each place has P
abbrev pub AllPlaces : {X : Type 0} → (Place → Bool) → Entries X → Type 0
AllPlaces P [] = Unit {0}
AllPlaces P (e ∷ es) = (P e.0 ≡ true) × AllPlaces P es

-- each place comes before all later ones
abbrev pub IsSorted : {X : Type 0} → Entries X → Type 0
IsSorted [] = Unit {0}
IsSorted (e ∷ es) = AllPlaces (is_before e.0) es × IsSorted es

-- what is kept at a place
abbrev pub find : {X : Type 0} → Entries X → Place → Option X
find [] at = None
find (e ∷ es) at = option_or (cond (is_same e.0 at) e.1 None) (find es at)

-- the first place from this one on that something is kept at, and what
abbrev pub first_from : {X : Type 0} → Entries X → Place → Option (Place × X)
first_from [] from = None
first_from (e ∷ es) from = option_or (cond (is_before e.0 from) None (option_map (λ x. (e.0, x)) e.1)) (first_from es from)

-- at one place this, elsewhere as before
abbrev pub at_place : {X : Type 0} → (Place → X) → Place → X → Place → X
at_place f place w other = if is_same place other then w else f other

-- what is of each place of some entries, and of one more place, is of each of others
abbrev pub StayAmong : {X : Type 0} → (old new : Entries X) → Place → Type 0
StayAmong old new place = (P : Place → Bool) → P place ≡ true → AllPlaces P old → AllPlaces P new

-- Something is kept at a place, and nothing before that from another place on.
pub record IsFirstFrom {X : Type 0} (kept : Place → Option X) (from place : Place) (x : X) : Type 0 where
  pub found : kept place ≡ Some x
  pub behind : is_before place from ≡ false
  pub first : (other : Place) → is_some (kept other) ≡ true → is_before other from ≡ false → is_before other place ≡ false

-- nothing is kept from a place on
abbrev pub NoneFrom : {X : Type 0} → (Place → Option X) → Place → Type 0
NoneFrom kept from = (other : Place) → is_before other from ≡ false → kept other ≡ None

-- Entries that differ from others by what is kept at one place, if at all: they are in order, and nowhere but where the others are and there.
pub record Changes {X : Type 0} (old new : Entries X) (done : Bool) (place : Place) (w : Option X) : Type 0 where
  pub is : find new ≡ (if done then at_place (find old) place w else find old)
  pub sorted : IsSorted new
  pub among : StayAmong old new place

-- a clone is what it was made of
abbrev pub AreExact : {X : Type 0} → (X → X → Type 0) → Type 0
AreExact {X} IsClone = (x copy : X) → IsClone x copy → copy ≡ x
