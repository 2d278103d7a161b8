-- Ids that are rising, are there and are the only ones, are all.
use Rattle.std.proofs.Common.{◌≡◌, ◌⊎◌, inl, inr, Bool, true, List, [], ◌∷◌, Option, Some, None, sym, subst}
use Rattle.dura_value.specs.Ids.{Id}
use Rattle.shared_maps.specs.IdOrder.{is_before, is_no_later, is_behind, NoneBehind}
use Rattle.state_lines.specs.Table.{last_of, AreNext, AreAll}
use Rattle.state_lines.proofs.Order.{not_itself, no_later_itself, before_no_later, behind_more}

-- one of these
abbrev pub IsOneOf : List Id → Id → Type 0
IsOneOf [] other = ⊥
IsOneOf (id ∷ ids) other = (other ≡ id) ⊎ IsOneOf ids other

-- each is there, and behind the one before
abbrev pub AreRising : (there : Id → Bool) → Option Id → List Id → Type 0
AreRising there last [] = Unit {0}
AreRising there last (id ∷ ids) = (there id ≡ true) × (is_behind last id ≡ true) × AreRising there (Some id) ids

module _ (there : Id → Bool) where
  behind_one : (last : Option Id) (ids : List Id) (other : Id) → AreRising there last ids → IsOneOf ids other → is_behind last other ≡ true
  behind_one last [] other rising one = absurd one
  behind_one last (id ∷ ids) other rising (inl same) = subst (λ (i : Id). is_behind last i ≡ true) (sym same) rising.1
  behind_one last (id ∷ ids) other rising (inr later) = behind_more last id other rising.1 (behind_one (Some id) ids other rising.2 later)

  no_later_one : (id : Id) (ids : List Id) (other : Id) → AreRising there (Some id) ids → IsOneOf (id ∷ ids) other → is_no_later id other ≡ true
  no_later_one id ids other rising (inl same) = subst (λ (i : Id). is_no_later id i ≡ true) (sym same) (no_later_itself id)
  no_later_one id ids other rising (inr later) = before_no_later id other (behind_one (Some id) ids other rising later)

  past_one : (id : Id) (ids : List Id) (other : Id) → is_before id other ≡ true → IsOneOf (id ∷ ids) other → IsOneOf ids other
  past_one id ids other after (inl same) = absurd (not_itself id (subst (λ (i : Id). is_before id i ≡ true) same after))
  past_one id ids other after (inr later) = later

  all_next : (last : Option Id) (ids : List Id) → AreRising there last ids → ((other : Id) → there other ≡ true → is_behind last other ≡ true → IsOneOf ids other) → AreNext there last ids × NoneBehind there (last_of last ids)
  all_next last [] rising only = (tt, only)
  all_next last (id ∷ ids) rising only =
      let more : AreNext there (Some id) ids × NoneBehind there (last_of (Some id) ids) =
      all_next (Some id) ids rising.2 (λ other found after. past_one id ids other after (only other found (behind_more last id other rising.1 after))) in (
        (record { found = rising.0; behind = rising.1; first = λ other found behind. no_later_one id ids other rising.2 (only other found behind) }, more.0),
        more.1,
      )

  pub all_rising : (ids : List Id) → AreRising there None ids → ((other : Id) → there other ≡ true → IsOneOf ids other) → AreAll there ids
  all_rising ids rising only =
      let all : AreNext there None ids × NoneBehind there (last_of None ids) = all_next None ids rising (λ other found behind. only other found) in
      record { next = all.0; end = all.1 }
