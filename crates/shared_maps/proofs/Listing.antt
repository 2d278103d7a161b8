-- The ids that something is kept for, in their order.
use Rattle.std.proofs.Common.{◌≡◌, ◌∙◌, ◌<◌, ◌&&◌, ◌||◌, ◌==◌, inl, inr, Bool, true, false, not, cond, Option, Some, None, is_some, option_map, refl, ap, sym, eqb-true, Ordering, Less, Equal, Greater}
use Rattle.std.proofs.lemmas.Bool.{and_parts}
use Rattle.std.specs.Ordering.{is_lt, is_le, nat_cmp, ordering_then}
use Rattle.dura_value.specs.declared.addresses.Id.{Id as Address}
use Rattle.dura_value.specs.Ids.{Id, id_eq}
use Rattle.dura_value.specs.Views.{id_of}
use Rattle.shared_maps.specs.Digests.{digest_of, hashed_place, next_place, task_place, is_task_place, is_id_place, behind_id}
use Rattle.shared_trees.specs.Entries.{Entries, find, at_place, IsFirstFrom, NoneFrom}
use Rattle.shared_trees.specs.Ids.{id_cmp, key_of}
use Rattle.shared_maps.specs.IdOrder as by_ids
use Rattle.shared_maps.specs.Order as by_tasks
use Rattle.shared_trees.specs.Places.{Place, is_before, is_same}
use Rattle.shared_trees.proofs.Ids.{plain_again}
use Rattle.shared_trees.proofs.Orders.{before_trans, in_order, never, same_place, same_itself}
use Rattle.shared_maps.proofs.Passing.{before_next, count_at, fewer}
use Rattle.shared_maps.proofs.Seen.{same_hashed, task_changes}
use Rattle.shared_maps.proofs.Tasks.{task_alone, next_task, no_task}
use Rattle.shared_maps.proofs.Times.{first_place, none_before}

-- ---- the next id

lt_tied : (r s : Ordering) → s ≡ Equal → is_lt (ordering_then r s) ≡ is_lt r
lt_tied Less s is = refl
lt_tied Equal s is = ap is_lt is
lt_tied Greater s is = refl

le_tied : (r s : Ordering) → s ≡ Equal → is_le (ordering_then r s) ≡ is_le r
le_tied Less s is = refl
le_tied Equal s is = ap is_le is
le_tied Greater s is = refl

same_behind : (last : Option Id) (id : Id) → by_tasks.is_behind (option_map (λ i. (i, 0)) last) (id, 0) ≡ by_ids.is_behind last id
same_behind None id = refl
same_behind (Some last) id = lt_tied (id_cmp (key_of last) (key_of id)) (nat_cmp 0 0) refl

-- a place in the order of ids is that of its id
pub id_alone : (p : Place) (id : Address) → is_id_place p ≡ true → p.id ≡ Some id → p ≡ task_place (id_of id) 0
id_alone p id is found =
    let both = and_parts (is_task_place p) (p.number == 0) is in
    task_alone p id both.0 found ∙ ap (task_place (id_of id)) (eqb-true p.number 0 both.1)

module _ {X : Type 0} (kept : Place → Option X) (last : Option Id) where
  pub next_id : (p : Place) (x : X) (id : Id) → p ≡ task_place id 0 → IsFirstFrom kept (behind_id last) p x → by_ids.IsNextBehind (λ i. is_some (kept (task_place i 0))) last id
  next_id p x id is f =
      let next = next_task kept (option_map (λ i. (i, 0)) last) p x id 0 is f in
      record {
        found = next.found;
        behind = sym (same_behind last id) ∙ next.behind;
        first = λ other there behind.
            sym (le_tied (id_cmp (key_of id) (key_of other)) (nat_cmp 0 0) refl) ∙ next.first (other, 0) there (same_behind last other ∙ behind);
      }

  pub no_id : NoneFrom kept (behind_id last) → by_ids.NoneBehind (λ i. is_some (kept (task_place i 0))) last
  no_id none = λ id there behind. no_task kept (option_map (λ i. (i, 0)) last) none (id, 0) there (same_behind last id ∙ behind)

-- ---- an id joins

not_by : (b : Bool) → (b ≡ true → ⊥) → b ≡ false
not_by true never = absurd (never refl)
not_by false never = refl

same_some : (a b : Address) → Some a ≡ Some b → a ≡ b
same_some a b is = cc is

-- where the key of an id isn't the one by its digest, it is no id's key by its digest
pub not_hashed : (p : Place) (k : Address) → p.id ≡ Some k → is_same (hashed_place (id_of k) 0) p ≡ false → (id : Id) → is_same p (hashed_place id 0) ≡ false
not_hashed p k found off id = not_by (is_same p (hashed_place id 0)) (λ same.
    let here : p ≡ hashed_place id 0 = same_place p (hashed_place id 0) same in
    let ids : k ≡ key_of id = same_some k (key_of id) (sym found ∙ ap (λ (q : Place). q.id) here) in
    let plain : id_of k ≡ id = ap id_of ids ∙ plain_again id in
    let itself : is_same (hashed_place (id_of k) 0) p ≡ true = ap (λ (i : Id). is_same (hashed_place i 0) p) plain ∙ ap (is_same (hashed_place id 0)) here ∙ same_itself (hashed_place id 0) in
    cc (sym off ∙ itself))

is_some_by : {X : Type 0} (b : Bool) (x : X) (o : Option X) → is_some (cond b (Some x) o) ≡ b || is_some o
is_some_by true x o = refl
is_some_by false x o = refl

pub id_added : {X : Type 0} (f g : Place → Option X) (one key : Place) (x : X) (id : Id) → one ≡ task_place id 0 → key ≡ hashed_place id 0 → g ≡ at_place f one (Some x)
    → (i : Id) → is_some (g (task_place i 0)) ≡ is_same key (hashed_place i 0) || is_some (f (task_place i 0))
id_added f g one key x id is key_is changed i =
    ap (λ h. is_some (h i 0)) (task_changes f g one (Some x) id 0 is changed)
    ∙ is_some_by (id_eq id i && 0 == 0) x (f (task_place i 0))
    ∙ ap (λ (b : Bool). b || is_some (f (task_place i 0))) (sym (ap (λ (p : Place). is_same p (hashed_place i 0)) key_is ∙ same_hashed id i 0 0))

-- ---- the ids of all entries

-- Just the ids are there that something is kept for, by their digests, before this place.
abbrev pub AreListed : {X : Type 0} → (Place → Option X) → (Id → Bool) → Place → Type 0
AreListed kept has from = (id : Id) → has id ≡ is_some (kept (hashed_place id 0)) && is_before (hashed_place id 0) from

-- whether a place comes no earlier than another
abbrev pub is_left : Place → Place → Bool
is_left from place = not (is_before place from)

and_false : (b : Bool) → b && false ≡ false
and_false true = refl
and_false false = refl

and_true : (b : Bool) → b && true ≡ b
and_true true = refl
and_true false = refl

module _ {X : Type 0} (kept : Place → Option X) where
  pub none_listed : (has : Id → Bool) → ((id : Id) → has id ≡ false) → AreListed kept has first_place
  none_listed has none id =
      none id ∙ sym (ap (λ b. is_some (kept (hashed_place id 0)) && b) (none_before (digest_of id) id 0) ∙ and_false (is_some (kept (hashed_place id 0))))

  pub all_listed : (from : Place) (has : Id → Bool) → NoneFrom kept from → AreListed kept has from → (id : Id) → has id ≡ is_some (kept (hashed_place id 0))
  all_listed from has none are id = are id ∙ by (is_before at from) refl
    where
      at : Place
      at = hashed_place id 0

      by : (b : Bool) → is_before at from ≡ b → is_some (kept at) && b ≡ is_some (kept at)
      by true is = and_true (is_some (kept at))
      by false is = and_false (is_some (kept at)) ∙ sym (ap is_some (none at is))

  module _ (from place : Place) (x : X) (first : IsFirstFrom kept from place x) where
    -- what comes before where the search began isn't behind what it found
    not_behind : (at : Place) → is_before at from ≡ true → is_before place at ≡ false
    not_behind at before = not_by (is_before place at) (λ behind. cc (sym (before_trans place at from behind before) ∙ first.behind))

    -- what is kept elsewhere, no earlier than where the search began, is behind what it found
    is_behind : (at : Place) → is_same place at ≡ false → is_some (kept at) ≡ true → is_before at from ≡ false → is_before place at ≡ true
    is_behind at off there left = elim (in_order place at) [
      | inl here ↦ absurd (cc (sym off ∙ ap (is_same place) (sym here) ∙ same_itself place))
      | inr other ↦ elim other [
        | inl behind ↦ behind
        | inr before ↦ absurd (cc (sym before ∙ first.first at there left))
      ]
    ]

    moved_by : (at : Place) → is_same place at ≡ false → is_some (kept at) ≡ true → (b : Bool) → is_before at from ≡ b → b ≡ is_before at (next_place place)
    moved_by at off there true before = sym (before_next at place ∙ ap not (not_behind at before))
    moved_by at off there false left = sym (before_next at place ∙ ap not (is_behind at off there left))

    listed_at : (at : Place) → is_same place at || (is_some (kept at) && is_before at from) ≡ is_some (kept at) && is_before at (next_place place)
    listed_at at = by (is_same place at) refl (is_some (kept at)) refl
      where
        by : (b : Bool) → is_same place at ≡ b → (k : Bool) → is_some (kept at) ≡ k → b || (k && is_before at from) ≡ k && is_before at (next_place place)
        by true here true there = sym (before_next at place ∙ ap not (ap (is_before place) (sym (same_place place at here)) ∙ never place))
        by true here false none = absurd (cc (sym none ∙ ap (λ p. is_some (kept p)) (sym (same_place place at here)) ∙ ap is_some first.found))
        by false off true there = moved_by at off there (is_before at from) refl
        by false off false none = refl

    pub next_listed : (old new : Id → Bool) → ((id : Id) → new id ≡ is_same place (hashed_place id 0) || old id) → AreListed kept old from → AreListed kept new (next_place place)
    next_listed old new added are id = added id ∙ ap (λ b. is_same place (hashed_place id 0) || b) (are id) ∙ listed_at (hashed_place id 0)

    left_before : (at : Place) → is_left (next_place place) at ≡ true → is_left from at ≡ true
    left_before at left = by (is_before at from) refl
      where
        by : (b : Bool) → is_before at from ≡ b → not b ≡ true
        by true before = absurd (cc (sym left ∙ ap not (before_next at place ∙ ap not (not_behind at before))))
        by false is = refl

-- one fewer is left
pub fewer_left : {X : Type 0} (entries : Entries X) (from place : Place) (x : X) → IsFirstFrom (find entries) from place x → count_at (is_left (next_place place)) entries < count_at (is_left from) entries
fewer_left entries from place x first =
    fewer (is_left from) (is_left (next_place place)) place (left_before (find entries) from place x first) (ap not first.behind)
    (ap not (before_next place place ∙ ap not (never place))) entries (ap is_some first.found)
