-- A list of all ids that are there is strictly rising, and has just those.
use Rattle.std.proofs.Common.{◌≡◌, inl, inr, ℕ, zero, suc, ◌<◌, length, Bool, true, List, [], ◌∷◌, Option, Some, None, slice_index_or, refl, subst, arith}
use Rattle.std.specs.List.{AllPairs, Contains}
use Rattle.dura_value.specs.Ids.{Id}
use Rattle.shared_maps.specs.IdOrder.{is_before, is_behind, NoneBehind}
use Rattle.state_lines.specs.Table.{last_of, AreNext, AreAll}
use Rattle.state_lines.proofs.Order.{behind_more, same_or_before}

contains_first : (id : Id) (ids : List Id) → Contains (id ∷ ids) id
contains_first id ids = (0, omega arith, refl)

contains_other : (first : Id) (ids : List Id) (id : Id) → Contains ids id → Contains (first ∷ ids) id
contains_other first ids id has = let inside : has.0 < length ids = has.1 in (suc has.0, omega arith, has.2)

module _ (there : Id → Bool) where
  all_behind : (last : Option Id) (ids : List Id) → AreNext there last ids → (k : ℕ) (d : Id) → k < length ids → is_behind last (slice_index_or ids k d) ≡ true
  all_behind last [] next k d inside = absurd (omega arith)
  all_behind last (id ∷ ids) next zero d inside = next.0.behind
  all_behind last (id ∷ ids) next (suc k) d inside = behind_more last id (slice_index_or ids k d) next.0.behind (all_behind (Some id) ids next.1 k d (omega arith))

  rising : (last : Option Id) (ids : List Id) → AreNext there last ids → (i j : ℕ) (d : Id) → i < j → j < length ids → is_before (slice_index_or ids i d) (slice_index_or ids j d) ≡ true
  rising last [] next i j d less inside = absurd (omega arith)
  rising last (id ∷ ids) next i zero d less inside = absurd (omega arith)
  rising last (id ∷ ids) next zero (suc j) d less inside = all_behind (Some id) ids next.1 j d (omega arith)
  rising last (id ∷ ids) next (suc i) (suc j) d less inside = rising (Some id) ids next.1 i j d (omega arith) (omega arith)

  all_there : (last : Option Id) (ids : List Id) → AreNext there last ids → (k : ℕ) (d : Id) → k < length ids → there (slice_index_or ids k d) ≡ true
  all_there last [] next k d inside = absurd (omega arith)
  all_there last (id ∷ ids) next zero d inside = next.0.found
  all_there last (id ∷ ids) next (suc k) d inside = all_there (Some id) ids next.1 k d (omega arith)

  has_all : (last : Option Id) (ids : List Id) → AreNext there last ids → NoneBehind there (last_of last ids) → (id : Id) → there id ≡ true → is_behind last id ≡ true → Contains ids id
  has_all last [] next end id found behind = absurd (end id found behind)
  has_all last (first ∷ ids) next end id found behind = elim (same_or_before first id (next.0.first id found behind)) [
    | inl same ↦ subst (Contains (first ∷ ids)) same (contains_first first ids)
    | inr before ↦ contains_other first ids id (has_all (Some first) ids next.1 end id found before)
  ]

  pub are_rising : (ids : List Id) → AreAll there ids → AllPairs (λ a b. is_before a b ≡ true) ids
  are_rising ids all = rising None ids all.next

  pub are_there : (ids : List Id) → AreAll there ids → (id : Id) → Contains ids id → there id ≡ true
  are_there ids all id has = subst (λ (i : Id). there i ≡ true) has.2 (all_there None ids all.next has.0 id has.1)

  pub have_all : (ids : List Id) → AreAll there ids → (id : Id) → there id ≡ true → Contains ids id
  have_all ids all id found = has_all None ids all.next all.end id found refl
