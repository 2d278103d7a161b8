-- The least of the heads of all places is the next id of all; and how heads go on behind it.
use Rattle.std.proofs.Common.{◌≡◌, ◌∙◌, inl, inr, ℕ, ◌<◌, length, Bool, true, List, [], ◌∷◌, ◌++◌, Option, Some, None, slice_index_or, slice_set, refl, sym, subst, arith}
use Rattle.std.proofs.lemmas.Bool.{cases_eq, cases_lt}
use Rattle.std.proofs.lemmas.List.{get_or-set_same, get_or-set_other, length-set, get_or_append_left, get_or_push, length-append}
use Rattle.dura_value.specs.Ids.{Id}
use Rattle.shared_maps.specs.IdOrder.{is_before, is_no_later, is_behind, IsNextBehind, NoneBehind}
use Rattle.state_lines.specs.Heads.{IsHead, AreHeads, IsLeast, IsLeastOf}
use Rattle.state_lines.proofs.Order.{no_later_trans, behind_more, same_or_before}

-- Something is there for just those ids that it is kept for at their own places, of which there are so many, and it is kept nowhere else.
pub record AreKept (count : ℕ) (there : Id → Bool) (kept : ℕ → Id → Bool) : Type 0 where
  pub place_of : Id → ℕ
  pub inside : (id : Id) → place_of id < count
  pub same : (id : Id) → there id ≡ kept (place_of id) id
  pub only : (place : ℕ) (id : Id) → place < count → kept place id ≡ true → place_of id ≡ place

module _ (count : ℕ) (there : Id → Bool) (kept : ℕ → Id → Bool) (are : AreKept count there kept) where
  -- what is kept at a place is there
  pub kept_there : (place : ℕ) (id : Id) → place < count → kept place id ≡ true → there id ≡ true
  kept_there place id inside found = are.same id ∙ subst (λ (p : ℕ). kept p id ≡ true) (sym (are.only place id inside found)) found

  -- what is there is kept at its place
  pub there_kept : (id : Id) → there id ≡ true → kept (are.place_of id) id ≡ true
  there_kept id found = sym (are.same id) ∙ found

  module _ (last : Option Id) (heads : List (Option Id)) (long : length heads ≡ count) (all : AreHeads kept last heads) where
    module _ (place : ℕ) (id : Id) (least : IsLeast heads (place, id)) where
      inside_count : place < count
      inside_count = let inside : place < length heads = least.inside in omega arith

      -- it is its place's
      pub least_kept : IsNextBehind (kept place) last id
      least_kept = subst (IsHead (kept place) last) least.at (all place least.inside)

      before_head : (at : ℕ) (other : Id) (head : Option Id) → slice_index_or heads at None ≡ head → IsHead (kept at) last head → kept at other ≡ true → is_behind last other ≡ true → is_no_later id other ≡ true
      before_head at other None is none found behind = absurd (none other found behind)
      before_head at other (Some head) is next found behind = no_later_trans id head other (least.first at head is) (next.first other found behind)

      -- the least head is the next id
      pub least_next : IsNextBehind there last id
      least_next = record {
        found = kept_there place id inside_count least_kept.found;
        behind = least_kept.behind;
        first = λ other found behind.
            let at : ℕ = are.place_of other in
            let inside : at < length heads = let below : at < count = are.inside other in omega arith in
            before_head at other (slice_index_or heads at None) refl (all at inside) (there_kept other found) behind;
      }

      not_there : (at : ℕ) → (at ≡ place → ⊥) → at < count → kept at id ≡ true → ⊥
      not_there at apart inside found = apart (sym (are.only at id inside found) ∙ are.only place id inside_count least_kept.found)

      behind_it : (at : ℕ) (head : Id) → (at ≡ place → ⊥) → at < count → kept at head ≡ true → is_no_later id head ≡ true → is_before id head ≡ true
      behind_it at head apart inside found later = elim (same_or_before id head later) [
        | inl same ↦ absurd (not_there at apart inside (subst (λ (i : Id). kept at i ≡ true) (sym same) found))
        | inr before ↦ before
      ]

      -- the head of another place stays
      stays : (at : ℕ) (head : Option Id) → (at ≡ place → ⊥) → at < count → slice_index_or heads at None ≡ head → IsHead (kept at) last head → IsHead (kept at) (Some id) head
      stays at None apart inside is none = λ other found after. none other found (behind_more last id other least_kept.behind after)
      stays at (Some head) apart inside is next = record {
        found = next.found;
        behind = behind_it at head apart inside next.found (least.first at head is);
        first = λ other found after. next.first other found (behind_more last id other least_kept.behind after);
      }

      -- behind the least head its place has a next one, and the others have theirs
      pub heads_after : (next : Option Id) → IsHead (kept place) (Some id) next → AreHeads kept (Some id) (slice_set heads place next)
      heads_after next new = λ at inside.
          let below : at < length heads = let same = length-set heads place next in omega arith in
          elim (cases_eq at place) [
            | inl same ↦ subst (λ (p : ℕ). IsHead (kept p) (Some id) (slice_index_or (slice_set heads place next) p None)) (sym same) (subst (IsHead (kept place) (Some id)) (sym (get_or-set_same heads place next None least.inside)) new)
            | inr apart ↦ subst (IsHead (kept at) (Some id)) (sym (get_or-set_other heads place at next None apart)) (stays at (slice_index_or heads at None) apart (omega arith) refl (all at below))
          ]

    -- where no place has a head no id is behind the last one
    pub none_next : IsLeastOf heads None → NoneBehind there last
    none_next nowhere = λ id found behind.
        let at : ℕ = are.place_of id in
        let inside : at < length heads = let below : at < count = are.inside id in omega arith in
        let none : NoneBehind (kept at) last = subst (IsHead (kept at) last) (nowhere at) (all at inside) in
        none id (there_kept id found) behind

-- one head more, of the place behind the others
pub heads_more : (kept : ℕ → Id → Bool) (last : Option Id) (heads : List (Option Id)) (next : Option Id) → AreHeads kept last heads → IsHead (kept (length heads)) last next → AreHeads kept last (heads ++ next ∷ [])
heads_more kept last heads next all new = λ place inside. elim (cases_lt place (length heads)) [
  | inl before ↦ subst (IsHead (kept place) last) (sym (get_or_append_left heads (next ∷ []) None place before)) (all place before)
  | inr beyond ↦
      let at : length heads ≡ place = let long = length-append heads (next ∷ []) in omega arith in
      subst (IsHead (kept place) last) (sym (get_or_push heads next None place at)) (subst (λ (p : ℕ). IsHead (kept p) last next) at new)
]
