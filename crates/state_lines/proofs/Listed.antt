-- The ids of a map's entries can be listed in order.
use Rattle.std.proofs.Common.{◌≡◌, ◌∙◌, ◌⊎◌, inl, inr, ℕ, zero, suc, ◌≤◌, Bool, true, false, cond, List, [], ◌∷◌, Option, Some, None, is_some, refl, ap, sym, subst, arith}
use Rattle.std.specs.declared.cmp.Ordering.{Ordering}
use Rattle.std.specs.declared.cmp.Ordering.TheVariants.{Less, Equal, Greater}
use Rattle.std.specs.Ordering.{is_le, ordering_reverse}
use Rattle.std.specs.BTreeMap.{is_at}
use Rattle.std.specs.Map.{lookup}
use Rattle.dura_value.specs.declared.addresses.Id.{Id}
use Rattle.dura_value.specs.Ids as plain
use Rattle.dura_value.specs.Views.{id_of}
use Rattle.dura_value.specs.contracts.addresses.IdOrd.TheImpl.Laws.{total-law}
use Rattle.shared_maps.specs.Ids.{id_cmp, key_of}
use Rattle.shared_maps.specs.IdOrder.{is_behind, is_no_later, IsNextBehind, NoneBehind}
use Rattle.state_lines.specs.Table.{last_of, AreNext, AreAll}
use Rattle.state_lines.proofs.Behind.{count_behind, fewer, same_key, at_itself}
use Rattle.state_lines.proofs.Order.{no_later_trans, no_later_itself}
use Rattle.dura_value.proofs.Basics.{true_or_false}

no_later_either : (o : Ordering) → (is_le o ≡ true) ⊎ (is_le (ordering_reverse o) ≡ true)
no_later_either Less = inl refl
no_later_either Equal = inl refl
no_later_either Greater = inr refl

-- of two ids one is no later than the other
in_order : (a b : plain.Id) → (is_no_later a b ≡ true) ⊎ (is_no_later b a ≡ true)
in_order a b = elim (no_later_either (id_cmp (key_of a) (key_of b))) [
  | inl first ↦ inl first
  | inr second ↦ inr (ap is_le (total-law.antisymm (key_of b) (key_of a)) ∙ second)
]

module _ {X : Type 0} where
  -- whether one of these entries has the id
  abbrev pub has_entry : List (Id × X) → plain.Id → Bool
  has_entry entries id = is_some (lookup (is_at (id_cmp (key_of id))) entries)

  by_first : (b : Bool) (x : X) (o : Option X) → is_some (cond b (Some x) o) ≡ true → (b ≡ true) ⊎ (is_some o ≡ true)
  by_first true x o found = inl refl
  by_first false x o found = inr found

  pub first_or_other : (e : Id × X) (entries : List (Id × X)) (id : plain.Id) → has_entry (e ∷ entries) id ≡ true → (id_of e.0 ≡ id) ⊎ (has_entry entries id ≡ true)
  first_or_other e entries id found = elim (by_first (is_at (id_cmp (key_of id)) e.0) e.1 (lookup (is_at (id_cmp (key_of id))) entries) found) [
    | inl here ↦ inl (same_key id e.0 here)
    | inr later ↦ inr later
  ]

  first_is : (b : Bool) (x : X) (o : Option X) → b ≡ true → is_some (cond b (Some x) o) ≡ true
  first_is true x o is = refl
  first_is false x o is = absurd (cc is)

  pub has_first : (e : Id × X) (entries : List (Id × X)) → has_entry (e ∷ entries) (id_of e.0) ≡ true
  has_first e entries = first_is (is_at (id_cmp (key_of (id_of e.0))) e.0) e.1 (lookup (is_at (id_cmp (key_of (id_of e.0)))) entries) (at_itself e.0)

  still : (b : Bool) (x : X) (o : Option X) → is_some o ≡ true → is_some (cond b (Some x) o) ≡ true
  still true x o found = refl
  still false x o found = found

  pub has_other : (e : Id × X) (entries : List (Id × X)) (id : plain.Id) → has_entry entries id ≡ true → has_entry (e ∷ entries) id ≡ true
  has_other e entries id found = still (is_at (id_cmp (key_of id)) e.0) e.1 (lookup (is_at (id_cmp (key_of id))) entries) found

  module _ (last : Option plain.Id) where
    abbrev NextOrNone : List (Id × X) → Type 0
    NextOrNone entries = ((id : plain.Id) × IsNextBehind (has_entry entries) last id) ⊎ NoneBehind (has_entry entries) last

    -- the first entry is the next, where it is behind and no later than the others
    is_first : (e : Id × X) (entries : List (Id × X)) → is_behind last (id_of e.0) ≡ true → ((other : plain.Id) → has_entry entries other ≡ true → is_behind last other ≡ true → is_no_later (id_of e.0) other ≡ true)
        → IsNextBehind (has_entry (e ∷ entries)) last (id_of e.0)
    is_first e entries behind first = record {
      found = has_first e entries;
      behind = behind;
      first = λ other there after. elim (first_or_other e entries other there) [
        | inl same ↦ subst (λ (i : plain.Id). is_no_later (id_of e.0) i ≡ true) same (no_later_itself (id_of e.0))
        | inr later ↦ first other later after
      ];
    }

    -- another is the next, where it is so among the others and no later than the first entry
    is_later : (e : Id × X) (entries : List (Id × X)) (id : plain.Id) → IsNextBehind (has_entry entries) last id → (is_behind last (id_of e.0) ≡ true → is_no_later id (id_of e.0) ≡ true) → IsNextBehind (has_entry (e ∷ entries)) last id
    is_later e entries id next before = record {
      found = has_other e entries id next.found;
      behind = next.behind;
      first = λ other there after. elim (first_or_other e entries other there) [
        | inl same ↦ subst (λ (i : plain.Id). is_no_later id i ≡ true) same (before (subst (λ (i : plain.Id). is_behind last i ≡ true) (sym same) after))
        | inr later ↦ next.first other later after
      ];
    }

    with_behind : (e : Id × X) (entries : List (Id × X)) → is_behind last (id_of e.0) ≡ true → NextOrNone entries → NextOrNone (e ∷ entries)
    with_behind e entries behind (inr none) = inl (id_of e.0, is_first e entries behind (λ other there after. absurd (none other there after)))
    with_behind e entries behind (inl (id, next)) = elim (in_order (id_of e.0) id) [
      | inl before ↦ inl (id_of e.0, is_first e entries behind (λ other there after. no_later_trans (id_of e.0) id other before (next.first other there after)))
      | inr after ↦ inl (id, is_later e entries id next (λ behind. after))
    ]

    with_before : (e : Id × X) (entries : List (Id × X)) → is_behind last (id_of e.0) ≡ false → NextOrNone entries → NextOrNone (e ∷ entries)
    with_before e entries before (inl (id, next)) = inl (id, is_later e entries id next (λ behind. let wrong : true ≡ false = sym behind ∙ before in absurd (cc wrong)))
    with_before e entries before (inr none) = inr (λ id there after. elim (first_or_other e entries id there) [
      | inl same ↦ let wrong : true ≡ false = sym after ∙ ap (is_behind last) (sym same) ∙ before in cc wrong
      | inr later ↦ none id later after
    ])

    next_or_none : (entries : List (Id × X)) → NextOrNone entries
    next_or_none [] = inr (λ id there after. cc there)
    next_or_none (e ∷ entries) = elim (true_or_false (is_behind last (id_of e.0))) [
      | inl behind ↦ with_behind e entries behind (next_or_none entries)
      | inr before ↦ with_before e entries before (next_or_none entries)
    ]

  -- the ids behind the last one, in order
  record Lists (entries : List (Id × X)) (last : Option plain.Id) : Type 0 where
    ids : List plain.Id
    next : AreNext (has_entry entries) last ids
    end : NoneBehind (has_entry entries) (last_of last ids)

  more_listed : (entries : List (Id × X)) (last : Option plain.Id) (id : plain.Id) → IsNextBehind (has_entry entries) last id → Lists entries (Some id) → Lists entries last
  more_listed entries last id next listed = record { ids = id ∷ listed.ids; next = (next, listed.next); end = listed.end }

  none_listed : (entries : List (Id × X)) (last : Option plain.Id) → NoneBehind (has_entry entries) last → Lists entries last
  none_listed entries last none = record { ids = []; next = tt; end = none }

  listed : (most : ℕ) (entries : List (Id × X)) (last : Option plain.Id) → count_behind last entries ≤ most → Lists entries last
  listed zero entries last few = elim (next_or_none last entries) [
    | inl (id, next) ↦ let less = fewer last id next.behind entries next.found in absurd (omega arith)
    | inr none ↦ none_listed entries last none
  ]
  listed (suc most) entries last few = elim (next_or_none last entries) [
    | inl (id, next) ↦ let less = fewer last id next.behind entries next.found in more_listed entries last id next (listed most entries (Some id) (omega arith))
    | inr none ↦ none_listed entries last none
  ]

  pub all_listed : (entries : List (Id × X)) → (ids : List plain.Id) × AreAll (has_entry entries) ids
  all_listed entries =
      let those : Lists entries None = listed (count_behind None entries) entries None (omega arith) in
      (those.ids, record { next = those.next; end = those.end })
