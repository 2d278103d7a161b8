-- The states of all partitions, of which one changes.
use Rattle.std.proofs.Common.{◌≡◌, ◌≢◌, ◌∙◌, inl, inr, ℕ, ◌==◌, ◌<◌, ◌≤◌, Bool, true, false, cond, List, length, map, get_or, refl, sym, ap, subst, arith}
use Rattle.std.proofs.Math.ListN.{set}
use Rattle.std.proofs.lemmas.Bool.{cases_eq, eqb-true}
use Rattle.std.proofs.lemmas.List.{length-map, length-set, map-set, get_or-set_same, get_or-set_other, get_or_past}
use Rattle.std.proofs.lemmas.List.{get_or-map as get_mapped}
use Rattle.dura_model.proofs.Basics.{eqb_apart}
use Rattle.dura_model.specs.Partition.{Partition, fresh, with_part}
use Rattle.part_steps.specs.declared.state.PartState.{PartState}
use Rattle.part_steps.specs.States.{state_of, IsStateOf, AreStatesOfAll, parts_in}

pub parts_other : (xs : List PartState) (i : ℕ) (s : PartState) (other : ℕ) → other ≢ i → parts_in (set xs i s) other ≡ parts_in xs other
parts_other xs i s other apart =
    ap (λ (l : List Partition). get_or l other (fresh other)) (map-set state_of xs i s) ∙ get_or-set_other (map state_of xs) i other (state_of s) (fresh other) apart

pub parts_here : (xs : List PartState) (i : ℕ) (s : PartState) → i < length xs → parts_in (set xs i s) i ≡ state_of s
parts_here xs i s low =
    ap (λ (l : List Partition). get_or l i (fresh i)) (map-set state_of xs i s) ∙ get_or-set_same (map state_of xs) i (state_of s) (fresh i) (omega (arith, low, length-map xs state_of))

pub part_at : (xs : List PartState) (i : ℕ) (d : PartState) → i < length xs → parts_in xs i ≡ state_of (get_or xs i d)
part_at xs i d low = get_mapped state_of xs i d (fresh i) low

pub part_past : (xs : List PartState) (i : ℕ) → length xs ≤ i → parts_in xs i ≡ fresh i
part_past xs i past = get_or_past (map state_of xs) i (fresh i) (omega (arith, past, length-map xs state_of))

pub all_set : (xs : List PartState) (i : ℕ) (s : PartState) → AreStatesOfAll xs → i < length xs → IsStateOf (length xs) i s → AreStatesOfAll (set xs i s)
all_set xs i s all low is = record {
  some = let some = all.some in omega (arith, some, length-set xs i s);
  each = λ place d below.
      let long = length-set xs i s in
      let within : place < length xs = omega (arith, below, long) in
      elim (cases_eq place i) [
        | inl same ↦
            let here : IsStateOf (length xs) place (get_or (set xs i s) place d) =
            subst (λ (p : ℕ). IsStateOf (length xs) p (get_or (set xs i s) p d)) (sym same) (subst (IsStateOf (length xs) i) (sym (get_or-set_same xs i s d low)) is) in
            subst (λ (n : ℕ). IsStateOf n place (get_or (set xs i s) place d)) (sym long) here
        | inr apart ↦
            subst (λ (n : ℕ). IsStateOf n place (get_or (set xs i s) place d)) (sym long) (subst (IsStateOf (length xs) place) (sym (get_or-set_other xs i place s d apart)) (all.each place d within))
      ];
}

-- where all others stay, one changed
pub one_changed : (old new : ℕ → Partition) (i : ℕ) (next : Partition) → ((other : ℕ) → other ≢ i → new other ≡ old other) → new i ≡ next → new ≡ with_part old i next
one_changed old new i next others here = λ t other. at other (i == other) refl t
  where
    at : (other : ℕ) (test : Bool) → (i == other) ≡ test → new other ≡ cond (i == other) next (old other)
    at other true is = let same : i ≡ other = eqb-true i other is in subst (λ (o : ℕ). new o ≡ next) same here ∙ ap (λ (b : Bool). cond b next (old other)) (sym is)
    at other false is = others other (λ same. eqb_apart i other is (sym same)) ∙ ap (λ (b : Bool). cond b next (old other)) (sym is)

-- where one stays too, all do
pub none_changed : (old new : ℕ → Partition) (i : ℕ) → ((other : ℕ) → other ≢ i → new other ≡ old other) → new i ≡ old i → new ≡ old
none_changed old new i others here = λ t other. at other t
  where
    at : (other : ℕ) → new other ≡ old other
    at other = elim (cases_eq other i) [ inl same ↦ subst (λ (o : ℕ). new o ≡ old o) (sym same) here | inr apart ↦ others other apart ]
