-- Lost or not, by the floors one after another.
use Rattle.std.proofs.Common.{◌≡◌, ◌∙◌, ℕ, ◌<◌, true, false, List, length, map, get_or, sym, ap, eq-eqb, eqb-true, lt-ltb, ltb-true, le-leb, leb-true, arith}
use Rattle.std.proofs.lemmas.List.{get_or-map, length-map}
use Rattle.dura_value.specs.Items.{Identity, Floor as PlainFloor}
use Rattle.std.proofs.lemmas.Bool.{and_parts}
use Rattle.dura_value.proofs.Ids.{and_true}
use Rattle.dura_value.specs.Dependencies.{Lost}
use Rattle.dura_value.specs.Views.{floor_of}
use Rattle.spec_tracker.specs.Marks.{gives_up}
use Rattle.dura_value.specs.declared.identity.Floor.{Floor}

pub lost_at : (floors : List Floor) (k : ℕ) (d : Floor) (e : Identity) → gives_up (floor_of (get_or floors k d)) e ≡ true → k < length floors → Lost (map floor_of floors) e
lost_at floors k d e holds inside =
    let x = get_or floors k d in
    let both = and_parts _ _ holds in
    let first = and_parts _ _ both.0 in
    record {
      floor = floor_of x;
      there = (k, let many = length-map floors floor_of in omega (arith, many, inside), get_or-map floor_of floors k d (floor_of x) inside);
      partition = eqb-true _ _ first.0;
      later = ltb-true _ _ first.1;
      below = leb-true _ _ both.1;
    }

pub never_lost : (floors : List Floor) (e : Identity) → ((k : ℕ) (d : Floor) → k < length floors → gives_up (floor_of (get_or floors k d)) e ≡ false) → Lost (map floor_of floors) e → ⊥
never_lost floors e none lost =
    let k = lost.there.0 in
    let d : Floor = record { partition = 0; incarnation = 0; from = 0 } in
    let inside : k < length floors = let many = length-map floors floor_of in let lt = lost.there.1 in omega (arith, many, lt) in
    let same : floor_of (get_or floors k d) ≡ lost.floor = sym (get_or-map floor_of floors k d lost.floor inside) ∙ lost.there.2 in
    let holds : gives_up (floor_of (get_or floors k d)) e ≡ true =
    and_true _ _
    (and_true _ _ (eq-eqb _ _ (ap (λ (f : PlainFloor). f.partition) same ∙ lost.partition)) (lt-ltb _ _ (let at = ap (λ (f : PlainFloor). f.incarnation) same in let later = lost.later in omega (arith, at, later))))
    (le-leb _ _ (let at = ap (λ (f : PlainFloor). f.from) same in let below = lost.below in omega (arith, at, below))) in
    let wrong : true ≡ false = sym holds ∙ none k d inside in
    cc wrong
