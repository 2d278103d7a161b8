-- Sets of entities, in order.
use Rattle.std.proofs.Common.{◌≡◌, ◌&&◌, ◌⊎◌, inl, inr, Bool, true, false, cond, List, [], ◌∷◌, refl}
use Rattle.std.proofs.lemmas.Bool.{and_parts, and_from}
use Rattle.dura_value.specs.Messages.{Spot, spot_before, spot_eq, inserted, set_of}
use Rattle.run_laws.proofs.Order.{spot_trans, spot_total}

-- a spot is before each of these
abbrev pub is_below : Spot → List Spot → Bool
is_below spot [] = true
is_below spot (first ∷ set) = spot_before spot first && is_below spot set

-- each of these is before all later ones
abbrev pub is_rising : List Spot → Bool
is_rising [] = true
is_rising (spot ∷ set) = is_below spot set && is_rising set

below_trans : (spot first : Spot) (set : List Spot) → spot_before spot first ≡ true → is_below first set ≡ true → is_below spot set ≡ true
below_trans spot first [] before below = refl
below_trans spot first (other ∷ set) before below =
    let parts = and_parts (spot_before first other) (is_below first set) below in
    and_from (spot_before spot other) (is_below spot set) (spot_trans spot first other before parts.0) (below_trans spot first set before parts.1)

inserted_below : (low spot : Spot) (set : List Spot) → spot_before low spot ≡ true → is_below low set ≡ true → is_below low (inserted spot set) ≡ true
inserted_below low spot [] before below = and_from (spot_before low spot) true before refl
inserted_below low spot (first ∷ set) before below = by (spot_before spot first) (spot_eq spot first) (and_parts (spot_before low first) (is_below low set) below) (inserted_below low spot set before)
  where
    by : (less same : Bool) → (spot_before low first ≡ true) × (is_below low set ≡ true) → (is_below low set ≡ true → is_below low (inserted spot set) ≡ true)
        → is_below low (cond less (spot ∷ first ∷ set) (cond same (first ∷ set) (first ∷ inserted spot set))) ≡ true
    by true same parts rest = and_from (spot_before low spot) _ before below
    by false true parts rest = below
    by false false parts rest = and_from (spot_before low first) (is_below low (inserted spot set)) parts.0 (rest parts.1)

inserted_rising : (spot : Spot) (set : List Spot) → is_rising set ≡ true → is_rising (inserted spot set) ≡ true
inserted_rising spot [] rising = refl
inserted_rising spot (first ∷ set) rising =
    by (spot_before spot first) (spot_eq spot first) (spot_total spot first) refl refl (and_parts (is_below first set) (is_rising set) rising) (inserted_rising spot set)
  where
    by : (less same : Bool) → (spot_before spot first ≡ true) ⊎ ((spot_eq spot first ≡ true) ⊎ (spot_before first spot ≡ true)) → spot_before spot first ≡ less → spot_eq spot first ≡ same → (is_below first set ≡ true) × (is_rising set ≡ true)
        → (is_rising set ≡ true → is_rising (inserted spot set) ≡ true) → is_rising (cond less (spot ∷ first ∷ set) (cond same (first ∷ set) (first ∷ inserted spot set))) ≡ true
    by true same total is also parts rest = and_from (is_below spot (first ∷ set)) _ (and_from (spot_before spot first) (is_below spot set) is (below_trans spot first set is parts.0)) rising
    by false true total is also parts rest = rising
    by false false (inl less) is also parts rest = absurd (cc (less, is))
    by false false (inr (inl eq)) is also parts rest = absurd (cc (eq, also))
    by false false (inr (inr more)) is also parts rest = and_from (is_below first (inserted spot set)) (is_rising (inserted spot set)) (inserted_below first spot set more parts.0) (rest parts.1)

pub set_rising : (spots : List Spot) → is_rising (set_of spots) ≡ true
set_rising [] = refl
set_rising (spot ∷ spots) = inserted_rising spot (set_of spots) (set_rising spots)
