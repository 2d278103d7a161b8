-- How many there are by number, and where by id and number.
use Rattle.std.specs.Prelude.{ℕ, ◌==◌, ◌&&◌, Bool, false, List, [], Option, Some, None}
use Rattle.std.specs.BTreeMap.{get}
use Rattle.std.specs.Ordering.{nat_cmp}
use Rattle.dura_value.specs.Ids.{Id, id_eq}
use Rattle.shared_maps.specs.Maps.{by_number}
use Rattle.cell_waits.specs.declared.counts.Counts.{Counts}
use Rattle.cell_waits.specs.declared.places.Places.{Places}

-- it is this number
abbrev pub is_number : Option ℕ → ℕ → Bool
is_number None other = false
is_number (Some number) other = number == other

-- the same id and number
abbrev pub is_same : Id → ℕ → Id → ℕ → Bool
is_same id number other q = id_eq id other && number == q

-- they are this id and number
abbrev pub is_key : Option (Id × ℕ) → Id → ℕ → Bool
is_key None other q = false
is_key (Some key) other q = is_same key.0 key.1 other q

abbrev pub counted : Option ℕ → ℕ
counted None = 0
counted (Some count) = count

-- how many there are of a number
abbrev pub counts_in : Counts → ℕ → ℕ
counts_in counts number = counted (get nat_cmp counts.counts number)

-- none of any number
abbrev pub no_count : ℕ → ℕ
no_count number = 0

-- the places that stand there, if any do
abbrev pub listed : Option (List ℕ) → List ℕ
listed None = []
listed (Some line) = line

-- the places for an id and a number
abbrev pub places_in : Places → Id → ℕ → List ℕ
places_in places id number = listed (by_number places.places id number)

-- nothing is anywhere
abbrev pub no_place : Id → ℕ → List ℕ
no_place id number = []
