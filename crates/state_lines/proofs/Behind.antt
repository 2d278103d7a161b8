-- Fewer keys lie behind the next id than behind the last one.
use Rattle.std.proofs.Common.{◌≡◌, ◌∙◌, ℕ, ◌+◌, ◌<◌, ◌≤◌, Bool, true, false, cond, List, [], ◌∷◌, Option, Some, None, option_map, is_some, refl, ap, sym, subst, arith}
use Rattle.std.specs.BTreeMap.{is_at}
use Rattle.std.specs.Map.{lookup}
use Rattle.dura_value.specs.declared.addresses.Id.{Id}
use Rattle.dura_value.specs.Ids as plain
use Rattle.dura_value.specs.Ids.{id_eq}
use Rattle.dura_value.specs.Views.{id_of}
use Rattle.dura_value.proofs.Ids.{id_same, id_self}
use Rattle.shared_maps.specs.Ids.{id_cmp, key_of}
use Rattle.shared_maps.specs.IdOrder.{is_behind}
use Rattle.shared_maps.proofs.Ids.{is_key, key_again}
use Rattle.state_lines.proofs.Order.{id_again, not_itself, behind_more}

abbrev pub one_if : Bool → ℕ
one_if true = 1
one_if false = 0

-- how many of these entries have an id behind the last one
abbrev pub count_behind : {X : Type 0} → Option plain.Id → List (Id × X) → ℕ
count_behind last [] = 0
count_behind last (e ∷ entries) = one_if (is_behind last (id_of e.0)) + count_behind last entries

one_no_more : (b c : Bool) → (b ≡ true → c ≡ true) → one_if b ≤ one_if c
one_no_more true true keeps = omega arith
one_no_more true false keeps = let wrong : false ≡ true = keeps refl in absurd (cc wrong)
one_no_more false true keeps = omega arith
one_no_more false false keeps = omega arith

not_true : (b : Bool) → (b ≡ true → ⊥) → b ≡ false
not_true true not = absurd (not refl)
not_true false not = refl

pub same_key : (id : plain.Id) (k : Id) → is_at (id_cmp (key_of id)) k ≡ true → id_of k ≡ id
same_key id k at =
    let same : id_eq (id_of (key_of id)) (id_of k) ≡ true = sym (is_key (key_of id) (id_of k)) ∙ ap (λ (key : Id). is_at (id_cmp (key_of id)) key) (key_again k) ∙ at in
    sym (id_same (id_of (key_of id)) (id_of k) same) ∙ id_again id

pub at_itself : (k : Id) → is_at (id_cmp (key_of (id_of k))) k ≡ true
at_itself k = ap (λ (key : Id). is_at (id_cmp key) k) (key_again k) ∙ ap (λ (key : Id). is_at (id_cmp k) key) (sym (key_again k)) ∙ is_key k (id_of k) ∙ id_self (id_of k)

module _ (last : Option plain.Id) (id : plain.Id) (behind : is_behind last id ≡ true) where
  first_no_more : (k : Id) → one_if (is_behind (Some id) (id_of k)) ≤ one_if (is_behind last (id_of k))
  first_no_more k = one_no_more (is_behind (Some id) (id_of k)) (is_behind last (id_of k)) (λ after. behind_more last id (id_of k) behind after)

  pub no_more : {X : Type 0} (entries : List (Id × X)) → count_behind (Some id) entries ≤ count_behind last entries
  no_more [] = omega arith
  no_more (e ∷ entries) = let here = first_no_more e.0 in let those = no_more entries in omega arith

  -- an entry of the id itself is not behind it
  is_past : (k : Id) → id_of k ≡ id → is_behind (Some id) (id_of k) ≡ false
  is_past k is = not_true (is_behind (Some id) (id_of k)) (λ before. not_itself id (subst (λ (i : plain.Id). is_behind (Some id) i ≡ true) is before))

  first_fewer : (k : Id) → id_of k ≡ id → one_if (is_behind (Some id) (id_of k)) < one_if (is_behind last (id_of k))
  first_fewer k is =
      let now : one_if (is_behind (Some id) (id_of k)) ≡ one_if false = ap one_if (is_past k is) in
      let was : one_if (is_behind last (id_of k)) ≡ one_if true = ap one_if (ap (is_behind last) is ∙ behind) in
      omega arith

  fewer_by : {X : Type 0} (e : Id × X) (entries : List (Id × X)) (b : Bool) → is_at (id_cmp (key_of id)) e.0 ≡ b → is_some (cond b (Some e.1) (lookup (is_at (id_cmp (key_of id))) entries)) ≡ true
      → (is_some (lookup (is_at (id_cmp (key_of id))) entries) ≡ true → count_behind (Some id) entries < count_behind last entries) → count_behind (Some id) (e ∷ entries) < count_behind last (e ∷ entries)
  fewer_by e entries true at found later = let here = first_fewer e.0 (same_key id e.0 at) in let those = no_more entries in omega arith
  fewer_by e entries false at found later = let here = first_no_more e.0 in let those = later found in omega arith

  pub fewer : {X : Type 0} (entries : List (Id × X)) → is_some (lookup (is_at (id_cmp (key_of id))) entries) ≡ true → count_behind (Some id) entries < count_behind last entries
  fewer [] found = absurd (cc found)
  fewer (e ∷ entries) found = fewer_by e entries (is_at (id_cmp (key_of id)) e.0) refl found (fewer entries)

pub is_there : {X Y : Type 0} (view : X → Y) (o : Option X) → is_some (option_map view o) ≡ true → is_some o ≡ true
is_there view None found = absurd (cc found)
is_there view (Some x) found = refl
