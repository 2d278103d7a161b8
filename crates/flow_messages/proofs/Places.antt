-- The entity at a place of a lock's set.
use Rattle.std.proofs.Common.{◌≡◌, ◌<◌, ◌≤◌, ◌∙◌, ℕ, zero, suc, List, [], ◌∷◌, length, get_or, Some, None, refl, ap, option_map}
use Rattle.std.proofs.lemmas.Option.{slice_get_read, slice_get_past}
use Rattle.std.specs.List.{slice_get}
use Rattle.dura_value.specs.declared.spots.Spot.{Spot}
use Rattle.dura_value.specs.Messages.{entity_at, at_spot}
use Rattle.dura_value.specs.Views.{spot_of, spots_of}

at_place : (set : List Spot) (n : ℕ) → entity_at (spots_of set) n ≡ option_map (λ (s : Spot). at_spot (spot_of s)) (slice_get set n)
at_place [] n = refl
at_place (spot ∷ set) zero = refl
at_place (spot ∷ set) (suc n) = at_place set n

pub there : (set : List Spot) (n : ℕ) (next : Spot) → n < length set → next ≡ get_or set n next → entity_at (spots_of set) n ≡ Some (at_spot (spot_of next))
there set n next inside is = at_place set n ∙ ap (option_map (λ (s : Spot). at_spot (spot_of s))) (slice_get_read set (length set) n next refl inside is)

pub behind_all : (set : List Spot) (n : ℕ) → length set ≤ n → entity_at (spots_of set) n ≡ None
behind_all set n past = at_place set n ∙ ap (option_map (λ (s : Spot). at_spot (spot_of s))) (slice_get_past set n past)
