-- Entities that are put into a set one after the other.
use Rattle.std.proofs.Common.{◌≡◌, ◌∙◌, ◌<◌, ℕ, zero, suc, List, [], ◌∷◌, ◌++◌, length, get_or, take, drop, Bool, true, false, if◌then◌else◌, refl, ap, sym, arith}
use Rattle.std.specs.List.{insert}
use Rattle.dura_value.specs.Messages.{spot_before, spot_eq, inserted, set_of}
use Rattle.dura_value.specs.Messages as plain
use Rattle.dura_value.specs.Views.{spot_of, spots_of}
use Rattle.dura_value.specs.declared.spots.Spot.{Spot}

-- it goes before the first one that it comes before
pub goes_here : (set : List Spot) (place : ℕ) (spot : plain.Spot) (at : Spot) → place < length set → at ≡ get_or set place at → spot_before spot (spot_of at) ≡ true
    → spots_of (take place set) ++ inserted spot (spots_of (drop place set)) ≡ insert (spots_of set) place spot
goes_here [] place spot at here is before = absurd (omega arith)
goes_here (first ∷ set) zero spot at here is before =
    ap (λ (b : Bool). if b then spot ∷ spot_of first ∷ spots_of set else (if spot_eq spot (spot_of first) then spot_of first ∷ spots_of set else spot_of first ∷ inserted spot (spots_of set)))
    (ap (λ (s : Spot). spot_before spot (spot_of s)) (sym is) ∙ before)
goes_here (first ∷ set) (suc place) spot at here is before = ap (λ (l : List plain.Spot). spot_of first ∷ l) (goes_here set place spot at (omega arith) is before)

-- one that is there stays where it is
pub stands_here : (set : List Spot) (place : ℕ) (spot : plain.Spot) (at : Spot) → place < length set → at ≡ get_or set place at → spot_before spot (spot_of at) ≡ false → spot_eq spot (spot_of at) ≡ true
    → spots_of (take place set) ++ inserted spot (spots_of (drop place set)) ≡ spots_of set
stands_here [] place spot at here is before same = absurd (omega arith)
stands_here (first ∷ set) zero spot at here is before same =
    ap (λ (b : Bool). if b then spot ∷ spot_of first ∷ spots_of set else (if spot_eq spot (spot_of first) then spot_of first ∷ spots_of set else spot_of first ∷ inserted spot (spots_of set)))
    (ap (λ (s : Spot). spot_before spot (spot_of s)) (sym is) ∙ before)
    ∙ ap (λ (b : Bool). if b then spot_of first ∷ spots_of set else spot_of first ∷ inserted spot (spots_of set)) (ap (λ (s : Spot). spot_eq spot (spot_of s)) (sym is) ∙ same)
stands_here (first ∷ set) (suc place) spot at here is before same = ap (λ (l : List plain.Spot). spot_of first ∷ l) (stands_here set place spot at (omega arith) is before same)

pub put_in : (set : List Spot) (place : ℕ) (spot : Spot) → spots_of (insert set place spot) ≡ insert (spots_of set) place (spot_of spot)
put_in [] zero spot = refl
put_in [] (suc place) spot = refl
put_in (first ∷ set) zero spot = refl
put_in (first ∷ set) (suc place) spot = ap (λ (l : List plain.Spot). spot_of first ∷ l) (put_in set place spot)

-- the last one is put in first
abbrev pub all_inserted : List plain.Spot → List plain.Spot → List plain.Spot
all_inserted [] set = set
all_inserted (spot ∷ spots) set = inserted spot (all_inserted spots set)

pub last_inserted : (spots : List Spot) (spot : Spot) (set : List plain.Spot) → all_inserted (spots_of (spots ++ spot ∷ [])) set ≡ all_inserted (spots_of spots) (inserted (spot_of spot) set)
last_inserted [] spot set = refl
last_inserted (first ∷ spots) spot set = ap (inserted (spot_of first)) (last_inserted spots spot set)

pub all_inserted_into_none : (spots : List plain.Spot) → all_inserted spots [] ≡ set_of spots
all_inserted_into_none [] = refl
all_inserted_into_none (first ∷ spots) = ap (inserted first) (all_inserted_into_none spots)
