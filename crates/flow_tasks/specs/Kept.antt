-- Where kept events lie: in the order in which they came. The place of one that was taken stays empty.
use Rattle.std.specs.Prelude.{ℕ, suc, List, [], ◌∷◌, if◌then◌else◌, Option, Some, None}
use Rattle.std.specs.Str.{bytes_eq}
use Rattle.flow_tasks.specs.declared.raised.Raised.{Raised}

-- the events that are there
abbrev pub events_in : List (Option Raised) → List Raised
events_in [] = []
events_in (None ∷ slots) = events_in slots
events_in (Some one ∷ slots) = one ∷ events_in slots

-- the places of a name's events, where the first place has this number
abbrev pub places_from : List ℕ → ℕ → List (Option Raised) → List ℕ
places_from name place [] = []
places_from name place (None ∷ slots) = places_from name (suc place) slots
places_from name place (Some one ∷ slots) = if bytes_eq one.name name then place ∷ places_from name (suc place) slots else places_from name (suc place) slots
