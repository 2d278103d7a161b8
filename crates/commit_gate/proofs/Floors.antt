-- Which floors are under an entry.
use Rattle.std.proofs.Common.{◌≡◌, ℕ, ◌<◌, ◌≤◌, List, length, map, get_or, refl, sym, ◌∙◌, ap, subst, arith}
use Rattle.std.proofs.lemmas.List.{get_or-map as get_mapped, length-map}
use Rattle.dura_value.specs.Dependencies.{Lost}
use Rattle.dura_value.specs.Items as plain
use Rattle.dura_value.specs.Items.{Identity}
use Rattle.dura_value.specs.declared.identity.Floor.{Floor}
use Rattle.dura_value.specs.Views.{floor_of}
use Rattle.commit_gate.specs.Refused.{GaveUp}

abbrev pub all_floors : List Floor → List plain.Floor
all_floors = map floor_of

abbrev pub floor_from : List Floor → ℕ → Floor → ℕ
floor_from floors k d = (get_or floors k d).from

-- this incarnation gave it up
abbrev pub Gives : Identity → Floor → Type 0
Gives e floor = (floor.partition ≡ e.partition) × (e.incarnation < floor.incarnation) × (floor.from ≤ e.position)

-- no floor of those seen gives it up
abbrev pub KeptBelow : List Floor → Identity → ℕ → Type 0
KeptBelow floors e n = (k : ℕ) → k < n → (d : Floor) → Gives e (get_or floors k d) → ⊥

pub kept_all : (floors : List Floor) (e : Identity) (n : ℕ) → length floors ≤ n → KeptBelow floors e n → Lost (map floor_of floors) e → ⊥
kept_all floors e n all below lost =
    let (k, inside, is) = lost.there in
    let d : Floor = record { partition = lost.floor.partition; incarnation = lost.floor.incarnation; from = lost.floor.from } in
    let low : k < length floors = omega (arith, length-map floors floor_of, inside) in
    let at : lost.floor ≡ floor_of (get_or floors k d) = sym is ∙ get_mapped floor_of floors k d lost.floor low in
    below k (omega (arith, low, all)) d (
      sym (ap (λ (f : plain.Floor). f.partition) at) ∙ lost.partition,
      subst (λ (f : plain.Floor). e.incarnation < f.incarnation) at lost.later,
      subst (λ (f : plain.Floor). f.from ≤ e.position) at lost.below,
    )

-- one that does
pub floor_at : (floors : List Floor) (e : Identity) (k : ℕ) (d : Floor) → k < length floors → Gives e (get_or floors k d) → GaveUp (map floor_of floors) e (get_or floors k d).from
floor_at floors e k d low gives = record {
  floor = floor_of (get_or floors k d);
  there = (k, omega (arith, low, length-map floors floor_of), get_mapped floor_of floors k d (floor_of (get_or floors k d)) low);
  from_is = refl;
  partition = gives.0;
  later = gives.1;
  below = gives.2;
}
