-- The least of heads, one head after another; and what heads are by what a state answers.
use Rattle.std.proofs.Common.{◌≡◌, ◌∙◌, inl, inr, ℕ, ◌+◌, ◌<◌, length, Bool, true, false, List, [], ◌∷◌, ◌++◌, Option, Some, None, IfSome, IfNone, slice_index_or, refl, sym, subst, arith}
use Rattle.std.proofs.lemmas.Bool.{cases_eq, cases_lt}
use Rattle.std.proofs.lemmas.List.{get_or_append_left, get_or_push, get_or_past, length-append}
use Rattle.std.specs.Borrow.{Bor}
use Rattle.dura_value.specs.declared.addresses.Id.{Id as Given}
use Rattle.dura_value.specs.Ids.{Id}
use Rattle.dura_value.specs.Views.{id_of}
use Rattle.shared_maps.specs.IdOrder.{is_before, is_no_later, IsNextBehind, NoneBehind}
use Rattle.state_lines.specs.Heads.{IsHead, IsLeast, IsLeastOf, head_of}
use Rattle.state_lines.proofs.Order.{no_later_itself, no_later_trans, before_no_later, not_before}

-- the next id that a state answers is its head
pub is_head : (there : Id → Bool) (last : Option Id) (found : Option (Bor Given)) → IfSome found (λ id. IsNextBehind there last (id_of id.now)) → IfNone found (NoneBehind there last) → IsHead there last (head_of found)
is_head there last None next none = none
is_head there last (Some id) next none = next

module _ (heads : List (Option Id)) (more : Option Id) where
  among : (place : ℕ) → place < length heads → slice_index_or (heads ++ more ∷ []) place None ≡ slice_index_or heads place None
  among place inside = get_or_append_left heads (more ∷ []) None place inside

  at_end : slice_index_or (heads ++ more ∷ []) (length heads) None ≡ more
  at_end = get_or_push heads more None (length heads) refl

  long : length (heads ++ more ∷ []) ≡ length heads + 1
  long = length-append heads (more ∷ [])

  -- a head of them all is one of those before, the last one, or none
  which : (P : Option Id → Type 0) (place : ℕ) → P (slice_index_or heads place None) → P more → P None → P (slice_index_or (heads ++ more ∷ []) place None)
  which P place before here past = elim (cases_lt place (length heads)) [
    | inl inside ↦ subst P (sym (among place inside)) before
    | inr beyond ↦ elim (cases_eq place (length heads)) [
      | inl same ↦ subst (λ (n : ℕ). P (slice_index_or (heads ++ more ∷ []) n None)) (sym same) (subst P (sym at_end) here)
      | inr apart ↦ let much = long in subst P (sym (get_or_past (heads ++ more ∷ []) place None (omega arith))) past
    ]
  ]

  -- the least stays, where what comes behind the others is no earlier one
  least_stays : (least : ℕ × Id) → IsLeast heads least → ((head : Id) → more ≡ Some head → is_no_later least.1 head ≡ true) → IsLeast (heads ++ more ∷ []) least
  least_stays least is later = record {
    inside = let much = long in let inside : least.0 < length heads = is.inside in omega arith;
    at = among least.0 is.inside ∙ is.at;
    first = λ other head there. which (λ (h : Option Id). h ≡ Some head → is_no_later least.1 head ≡ true) other (is.first other head) (later head) (λ none. cc none) there;
  }

  none_stays : IsLeastOf heads None → more ≡ None → IsLeastOf (heads ++ more ∷ []) None
  none_stays none nothing = λ place. which (λ (h : Option Id). h ≡ None) place (none place) nothing refl

  -- what comes behind the others is the least, where each of them is later
  last_is_least : (id : Id) → more ≡ Some id → ((other : ℕ) (head : Id) → slice_index_or heads other None ≡ Some head → is_no_later id head ≡ true) → IsLeast (heads ++ more ∷ []) (length heads, id)
  last_is_least id is first = record {
    inside = let much = long in omega arith;
    at = at_end ∙ is;
    first = λ other head there.
        which (λ (h : Option Id). h ≡ Some head → is_no_later id head ≡ true) other (first other head) (λ last. let same : id ≡ head = cc (is, last) in subst (λ (i : Id). is_no_later id i ≡ true) same (no_later_itself id)) (λ none. cc none) there;
  }

pub no_more : (heads : List (Option Id)) (least : Option (ℕ × Id)) → IsLeastOf heads least → IsLeastOf (heads ++ None ∷ []) least
no_more heads None none = none_stays heads None none refl
no_more heads (Some least) is = least_stays heads None least is (λ head none. cc none)

pub first_one : (heads : List (Option Id)) (place : ℕ) (id : Id) → length heads ≡ place → IsLeastOf heads None → IsLeast (heads ++ Some id ∷ []) (place, id)
first_one heads place id at none = subst (λ (n : ℕ). IsLeast (heads ++ Some id ∷ []) (n, id)) at (last_is_least heads (Some id) id refl (λ other head there. let wrong : None ≡ Some head = sym (none other) ∙ there in cc wrong))

pub new_one : (heads : List (Option Id)) (place : ℕ) (id : Id) (least : ℕ × Id) → length heads ≡ place → IsLeast heads least → is_before id least.1 ≡ true → IsLeast (heads ++ Some id ∷ []) (place, id)
new_one heads place id least at is before = subst (λ (n : ℕ). IsLeast (heads ++ Some id ∷ []) (n, id)) at
    (last_is_least heads (Some id) id refl (λ other head there. no_later_trans id least.1 head (before_no_later id least.1 before) (is.first other head there)))

pub old_one : (heads : List (Option Id)) (id : Id) (least : ℕ × Id) → IsLeast heads least → is_before id least.1 ≡ false → IsLeast (heads ++ Some id ∷ []) least
old_one heads id least is after = least_stays heads (Some id) least is (λ head there. let same : id ≡ head = cc there in subst (λ (i : Id). is_no_later least.1 i ≡ true) same (not_before id least.1 after))
