-- The ids of the entries of many states can be listed in order.
use Rattle.std.proofs.Common.{◌≡◌, ◌⊎◌, inl, inr, ℕ, zero, suc, ◌<◌, length, Bool, true, false, List, [], ◌∷◌, ◌++◌, slice_index_or, refl, sym, subst, arith}
use Rattle.dura_value.specs.declared.addresses.Id.{Id}
use Rattle.dura_value.specs.Ids as plain
use Rattle.part_steps.specs.declared.state.PartState.{PartState}
use Rattle.state_lines.specs.Table.{AreAll}
use Rattle.state_lines.proofs.Merging.{AreKept, kept_there, there_kept}
use Rattle.state_lines.proofs.Listed.{has_entry, has_first, has_other, first_or_other, all_listed}

same_bool : (a b : Bool) → (a ≡ true → b ≡ true) → (b ≡ true → a ≡ true) → a ≡ b
same_bool true true there back = refl
same_bool true false there back = sym (there refl)
same_bool false true there back = back refl
same_bool false false there back = refl

module _ {X : Type 0} where
  has_before : (entries more : List (Id × X)) (id : plain.Id) → has_entry entries id ≡ true → has_entry (entries ++ more) id ≡ true
  has_before [] more id found = absurd (cc found)
  has_before (e ∷ entries) more id found = elim (first_or_other e entries id found) [
    | inl here ↦ subst (λ (i : plain.Id). has_entry (e ∷ (entries ++ more)) i ≡ true) here (has_first e (entries ++ more))
    | inr later ↦ has_other e (entries ++ more) id (has_before entries more id later)
  ]

  has_behind : (entries more : List (Id × X)) (id : plain.Id) → has_entry more id ≡ true → has_entry (entries ++ more) id ≡ true
  has_behind [] more id found = found
  has_behind (e ∷ entries) more id found = has_other e (entries ++ more) id (has_behind entries more id found)

  has_either : (entries more : List (Id × X)) (id : plain.Id) → has_entry (entries ++ more) id ≡ true → (has_entry entries id ≡ true) ⊎ (has_entry more id ≡ true)
  has_either [] more id found = inr found
  has_either (e ∷ entries) more id found = elim (first_or_other e (entries ++ more) id found) [
    | inl here ↦ inl (subst (λ (i : plain.Id). has_entry (e ∷ entries) i ≡ true) here (has_first e entries))
    | inr later ↦ elim (has_either entries more id later) [ inl among ↦ inl (has_other e entries id among) | inr behind ↦ inr behind ]
  ]

  module _ (rows : PartState → List (Id × X)) where
    abbrev joined : List PartState → List (Id × X)
    joined [] = []
    joined (s ∷ states) = rows s ++ joined states

    joined_has : (states : List PartState) (place : ℕ) (d : PartState) (id : plain.Id) → place < length states → has_entry (rows (slice_index_or states place d)) id ≡ true → has_entry (joined states) id ≡ true
    joined_has [] place d id inside found = absurd (omega arith)
    joined_has (s ∷ states) zero d id inside found = has_before (rows s) (joined states) id found
    joined_has (s ∷ states) (suc place) d id inside found = has_behind (rows s) (joined states) id (joined_has states place d id (omega arith) found)

    -- the place of a state that has an entry of the id
    record IsJoined (states : List PartState) (id : plain.Id) : Type 0 where
      place : ℕ
      inside : place < length states
      has : (d : PartState) → has_entry (rows (slice_index_or states place d)) id ≡ true

    is_joined : (states : List PartState) (id : plain.Id) → has_entry (joined states) id ≡ true → IsJoined states id
    is_joined [] id found = absurd (cc found)
    is_joined (s ∷ states) id found = elim (has_either (rows s) (joined states) id found) [
      | inl here ↦ record { place = 0; inside = omega arith; has = λ d. here }
      | inr later ↦
          let other : IsJoined states id = is_joined states id later in
          record { place = suc other.place; inside = let less : other.place < length states = other.inside in omega arith; has = other.has }
    ]

    module _ (states : List PartState) (there : plain.Id → Bool) (kept : ℕ → plain.Id → Bool) (are : AreKept (length states) there kept)
        (seen : (place : ℕ) (d : PartState) (id : plain.Id) → place < length states → kept place id ≡ has_entry (rows (slice_index_or states place d)) id) (some : PartState) where
      same_there : (id : plain.Id) → has_entry (joined states) id ≡ there id
      same_there id = same_bool (has_entry (joined states) id) (there id)
          (λ found. let is : IsJoined states id = is_joined states id found in kept_there (length states) there kept are is.place id is.inside (subst (λ (b : Bool). b ≡ true) (sym (seen is.place some id is.inside)) (is.has some)))
          (λ found. joined_has states (are.place_of id) some id (are.inside id) (subst (λ (b : Bool). b ≡ true) (seen (are.place_of id) some id (are.inside id)) (there_kept (length states) there kept are id found)))

      pub kept_listed : (ids : List plain.Id) × AreAll there ids
      kept_listed = subst (λ (t : plain.Id → Bool). (ids : List plain.Id) × AreAll t ids) (λ i id. same_there id i) (all_listed (joined states))
