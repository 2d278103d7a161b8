-- Floors of the first incarnation give nothing up.
use Rattle.std.proofs.Common.{◌≡◌, ℕ, zero, suc, List, [], ◌∷◌, map, Some, sym, subst, arith}
use Rattle.std.specs.List.{All, slice_get}
use Rattle.std.proofs.lemmas.List.Elements.{All-contains, All-map}
use Rattle.std.proofs.lemmas.Option.{slice_get_within, get_or_from_slice_get}
use Rattle.commit_gate.specs.Unlost.{AreUnlost}
use Rattle.commit_gate.specs.Views.{floors_in}
use Rattle.commit_gate.specs.declared.ledger.Ledger.{Ledger}
use Rattle.dura_value.specs.Items as plain
use Rattle.dura_value.specs.Views.{floor_of}
use Rattle.dura_value.specs.declared.identity.Floor.{Floor}

-- the one that there is
only_one : (ledger there : Ledger) (p : ℕ) → slice_get (ledger ∷ []) p ≡ Some there → ledger ≡ there
only_one ledger there zero found = get_or_from_slice_get (ledger ∷ []) 0 there ledger found
only_one ledger there (suc p) found = absurd (let low = slice_get_within (ledger ∷ []) (suc p) there found in omega (arith, low))

pub none_lost : (list : List Ledger) (ledger : Ledger) (floors : List Floor) → list ≡ ledger ∷ [] → floors_in ledger ≡ map floor_of floors → All (λ floor. floor.incarnation ≡ 0) floors → AreUnlost list
none_lost list ledger floors is shown first p there found position incarnation has floor inside later =
    let all : All (λ (f : plain.Floor). f.incarnation ≡ 0) (map floor_of floors) = All-map (λ (f : plain.Floor). f.incarnation ≡ 0) floor_of floors first in
    let one : ledger ≡ there = only_one ledger there p (subst (λ (l : List Ledger). slice_get l p ≡ Some there) is found) in
    let mine : All (λ (f : plain.Floor). f.incarnation ≡ 0) (floors_in there) = subst (λ (l : Ledger). All (λ (f : plain.Floor). f.incarnation ≡ 0) (floors_in l)) one (subst (All (λ (f : plain.Floor). f.incarnation ≡ 0)) (sym shown) all) in
    let zeroed : floor.incarnation ≡ 0 = All-contains (λ (f : plain.Floor). f.incarnation ≡ 0) (floors_in there) floor mine inside in
    absurd (omega (arith, later, zeroed))
