-- A look for the first task that isn't out, from one that is there to the next.
use Rattle.std.proofs.Common.{◌≡◌, ◌∙◌, ◌≤◌, ℕ, ◌==◌, ◌&&◌, Bool, true, false, not, Option, Some, if◌then◌else◌, refl, ap, sym, subst, eq-eqb, Ordering, Less, Equal, Greater, arith}
use Rattle.std.proofs.lemmas.Bool.{and_parts}
use Rattle.std.proofs.lemmas.Bool.Decides.{nat_tests}
use Rattle.std.specs.Cmp.{tied_itself}
use Rattle.std.specs.Ordering.{is_eq, is_lt, is_le, nat_cmp, ordering_then}
use Rattle.dura_value.proofs.Ids.{and_true, id_self}
use Rattle.dura_value.specs.ById.{at_number}
use Rattle.dura_value.specs.Ids as plain
use Rattle.dura_value.specs.Views.{id_of}
use Rattle.dura_value.specs.contracts.addresses.IdOrd.TheImpl.Laws.{total-law}
use Rattle.shared_maps.specs.Ids.{id_cmp, key_of}
use Rattle.shared_maps.specs.Order.{is_behind, task_cmp, IsFirst, IsNextBehind, NoneBehind}
use Rattle.shared_maps.proofs.Ids.{same_id}
use Rattle.shared_maps.proofs.Orders.{both_equal, same_number}

-- ---- the order

id_again : (id : plain.Id) → id_of (key_of id) ≡ id
id_again (plain.client name) = refl
id_again (plain.entity class key) = refl
id_again (plain.orchestration flow key) = refl

-- ids that stand level in the order are one
id_level : (a b : plain.Id) → is_eq (id_cmp (key_of a) (key_of b)) ≡ true → a ≡ b
id_level a b is = sym (id_again a) ∙ ap id_of (same_id (key_of a) (key_of b) is) ∙ id_again b

no_later_by : (r s : Ordering) → is_le (ordering_then r s) ≡ true → is_le r ≡ true
no_later_by Less s is = refl
no_later_by Equal s is = refl
no_later_by Greater s is = absurd (cc is)

then_level : (r s : Ordering) → is_eq r ≡ true → ordering_then r s ≡ s
then_level Less s is = absurd (cc is)
then_level Equal s is = refl
then_level Greater s is = absurd (cc is)

level_by : (r s : Ordering) → is_le r ≡ true → is_lt (ordering_then r s) ≡ false → is_eq r ≡ true
level_by Less s le lt = absurd (cc lt)
level_by Equal s le lt = refl
level_by Greater s le lt = absurd (cc le)

level : (r : Ordering) → is_le r ≡ true → is_lt r ≡ false → is_eq r ≡ true
level Less le lt = absurd (cc lt)
level Equal le lt = refl
level Greater le lt = absurd (cc le)

upto : (a b : ℕ) → is_le (nat_cmp a b) ≡ true → a ≤ b
upto a b is = grind (arith, nat_tests)

not_below : (a b : ℕ) → is_lt (nat_cmp a b) ≡ false → b ≤ a
not_below a b is = grind (arith, nat_tests)

-- ---- a look

module _ (there out : plain.Id → ℕ → Bool) where
  abbrev pub AllBefore : Option (plain.Id × ℕ) → Type 0
  AllBefore last = (id : plain.Id) (task : ℕ) → there id task ≡ true → is_behind last (id, task) ≡ false → out id task ≡ true

  abbrev pub is_due : plain.Id → ℕ → Bool
  is_due id task = there id task && not (out id task)

  -- where nothing is there behind the last one, all are out
  pub none_left : (last : Option (plain.Id × ℕ)) → AllBefore last → NoneBehind there last → (id : plain.Id) (task : ℕ) → there id task ≡ true → out id task ≡ true
  none_left last ahead none id task here = by (is_behind last (id, task)) refl
    where
      by : (b : Bool) → is_behind last (id, task) ≡ b → out id task ≡ true
      by true behind = absurd (none (id, task) here behind)
      by false before = ahead id task here before

  module _ (last : Option (plain.Id × ℕ)) (ahead : AllBefore last) (id : plain.Id) (task : ℕ) (next : IsNextBehind there last (id, task)) where
    -- what is there and isn't out is no earlier than the next
    due_behind : (other : plain.Id) (n : ℕ) → is_due other n ≡ true → is_le (task_cmp (id, task) (other, n)) ≡ true
    due_behind other n due = by (is_behind last (other, n)) refl (and_parts (there other n) (not (out other n)) due)
      where
        by : (b : Bool) → is_behind last (other, n) ≡ b → (there other n ≡ true) × (not (out other n) ≡ true) → is_le (task_cmp (id, task) (other, n)) ≡ true
        by true behind parts = next.first (other, n) parts.0 behind
        by false before parts = let wrong : false ≡ true = sym (ap not (ahead other n parts.0 before)) ∙ parts.1 in absurd (cc wrong)

    -- the next, where it isn't out
    pub next_due : out id task ≡ false → IsFirst is_due id task
    next_due isnt =
        let r = id_cmp (key_of id) (key_of id) in
        record {
          found = and_true (there id task) (not (out id task)) next.found (ap not isnt);
          first = λ other n due. no_later_by (id_cmp (key_of id) (key_of other)) (nat_cmp task n) (due_behind other n due);
          least = λ n due. upto task n (ap is_le (sym (then_level r (nat_cmp task n) (ap is_eq (tied_itself total-law (key_of id))))) ∙ due_behind id n due);
        }

    -- the next, where it is out
    pub next_out : out id task ≡ true → AllBefore (Some (id, task))
    next_out is other n here before = by (is_behind last (other, n)) refl
      where
        by : (b : Bool) → is_behind last (other, n) ≡ b → out other n ≡ true
        by true behind =
            let same = both_equal (id_cmp (key_of id) (key_of other)) (nat_cmp task n) (level (task_cmp (id, task) (other, n)) (next.first (other, n) here behind) before) in
            subst (λ (i : plain.Id). out i n ≡ true) (id_level id other same.0) (subst (λ (m : ℕ). out id m ≡ true) (same_number task n same.1) is)
        by false earlier = ahead other n here earlier

  -- the first that wasn't out is given out
  pub first_given : (id : plain.Id) (task : ℕ) → IsFirst is_due id task → (other : plain.Id) (n : ℕ) → there other n ≡ true → is_behind (Some (id, task)) (other, n) ≡ false → at_number out id task true other n ≡ true
  first_given id task is other n here before = by (out other n) refl
    where
      r : Ordering
      r = id_cmp (key_of id) (key_of other)

      kept : (b : Bool) → (if b then true else true) ≡ true
      kept true = refl
      kept false = refl

      by : (b : Bool) → out other n ≡ b → at_number out id task true other n ≡ true
      by true gone = ap (λ (o : Bool). if plain.id_eq id other && task == n then true else o) gone ∙ kept (plain.id_eq id other && task == n)
      by false waits =
          let due : is_due other n ≡ true = and_true (there other n) (not (out other n)) here (ap not waits) in
          let ids : is_eq r ≡ true = level_by r (nat_cmp task n) (is.first other n due) before in
          let same : id ≡ other = id_level id other ids in
          let least : task ≤ n = is.least n (subst (λ (i : plain.Id). is_due i n ≡ true) (sym same) due) in
          let most : n ≤ task = not_below task n (ap is_lt (sym (then_level r (nat_cmp task n) ids)) ∙ before) in
          let number : task ≡ n = omega (arith, least, most) in
          let here_too : plain.id_eq id other && task == n ≡ true =
          and_true (plain.id_eq id other) (task == n) (subst (λ (i : plain.Id). plain.id_eq id i ≡ true) same (id_self id)) (eq-eqb task n number) in
          ap (λ (b : Bool). if b then true else out other n) here_too
