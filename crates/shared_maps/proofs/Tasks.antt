-- Ids with numbers, in order.
use Rattle.std.proofs.Common.{◌≡◌, ◌∙◌, ◌≤◌, IfNone, ℕ, Bool, true, false, not, Option, Some, None, is_some, refl, ap, sym, ◌==◌, eqb-true, Ordering, Less, Equal, Greater, arith}
use Rattle.std.proofs.lemmas.Bool.{and_parts}
use Rattle.std.proofs.lemmas.Bool.Decides.{nat_tests}
use Rattle.std.specs.Cmp.{tied_itself}
use Rattle.std.specs.Ordering.{is_eq, is_lt, is_le, nat_cmp, ordering_then, ordering_reverse}
use Rattle.dura_value.specs.declared.addresses.Id.{Id as Address}
use Rattle.dura_value.specs.Ids.{Id}
use Rattle.dura_value.specs.Views.{id_of}
use Rattle.dura_value.specs.contracts.addresses.IdOrd.TheImpl.Laws.{total-law}
use Rattle.shared_trees.specs.Ids.{id_cmp, key_of}
use Rattle.shared_maps.specs.Digests.{task_place, behind_task, is_task_place}
use Rattle.shared_maps.specs.Order.{task_cmp, is_behind, IsFirst, IsNextBehind, NoneBehind}
use Rattle.shared_trees.specs.Places.{Place, is_before}
use Rattle.shared_trees.specs.Entries.{IsFirstFrom, NoneFrom}
use Rattle.shared_trees.proofs.Ids.{key_again}
use Rattle.shared_maps.proofs.Passing.{before_next}
use Rattle.shared_trees.proofs.Orders.{places_total}

-- what is behind the last is what doesn't come before the place behind it
pub behind_or_before : (last : Option (Id × ℕ)) (task : Id × ℕ) → is_before (task_place task.0 task.1) (behind_task last) ≡ not (is_behind last task)
behind_or_before None task = refl
behind_or_before (Some last) task = before_next (task_place task.0 task.1) (task_place last.0 last.1)

pub not_true : (b : Bool) → b ≡ true → not b ≡ false
not_true true is = refl
not_true false is = absurd (cc is)

pub not_false : (b : Bool) → not b ≡ false → b ≡ true
not_false true is = refl
not_false false is = absurd (cc is)

pub le_by : (r : Ordering) → is_lt (ordering_reverse r) ≡ false → is_le r ≡ true
le_by Less is = refl
le_by Equal is = refl
le_by Greater is = absurd (cc is)

-- a place in the order of ids is that of its id and number
pub task_alone : (p : Place) (id : Address) → is_task_place p ≡ true → p.id ≡ Some id → p ≡ task_place (id_of id) p.number
task_alone p id is found =
    let lead = eqb-true p.lead 0 (and_parts (p.lead == 0) (is_some p.id) is).0 in
    let ids : p.id ≡ Some (key_of (id_of id)) = found ∙ ap Some (sym (key_again id)) in
    λ i. record { lead = lead i; id = ids i; number = p.number }

pub some_id : (o : Option Address) → is_some o ≡ true → o ≡ None → ⊥
some_id o is none = cc (sym is ∙ ap is_some none)

pub never_alone : (p : Place) → is_task_place p ≡ true → p.id ≡ None → ⊥
never_alone p is none = some_id p.id (and_parts (p.lead == 0) (is_some p.id) is).1 none

pub there_by : {X : Type 0} (o : Option X) → is_some o ≡ true → o ≡ None → ⊥
there_by o is none = cc (sym is ∙ ap is_some none)

module _ {X : Type 0} (kept : Place → Option X) (last : Option (Id × ℕ)) where
  pub next_task : (p : Place) (x : X) (id : Id) (number : ℕ) → p ≡ task_place id number → IsFirstFrom kept (behind_task last) p x
      → IsNextBehind (λ i n. is_some (kept (task_place i n))) last (id, number)
  next_task p x id number is f = record {
    found = ap (λ q. is_some (kept q)) (sym is) ∙ ap is_some f.found;
    behind = not_false (is_behind last (id, number)) (sym (behind_or_before last (id, number)) ∙ ap (λ q. is_before q (behind_task last)) (sym is) ∙ f.behind);
    first = λ other found behind.
        le_by (task_cmp (id, number) other)
        (ap is_lt (sym (places_total.antisymm (task_place other.0 other.1) (task_place id number)))
        ∙ ap (is_before (task_place other.0 other.1)) (sym is)
        ∙ f.first (task_place other.0 other.1) found (behind_or_before last other ∙ not_true (is_behind last other) behind));
  }

  pub no_task : NoneFrom kept (behind_task last) → NoneBehind (λ i n. is_some (kept (task_place i n))) last
  no_task none = λ task found behind.
      there_by (kept (task_place task.0 task.1)) found (none (task_place task.0 task.1) (behind_or_before last task ∙ not_true (is_behind last task) behind))

no_later_by : (r s : Ordering) → is_le (ordering_then r s) ≡ true → is_le r ≡ true
no_later_by Less s is = refl
no_later_by Equal s is = refl
no_later_by Greater s is = absurd (cc is)

then_equal_le : (r s : Ordering) → r ≡ Equal → is_le (ordering_then r s) ≡ is_le s
then_equal_le Less s is = absurd (cc (ap is_eq is))
then_equal_le Equal s is = refl
then_equal_le Greater s is = absurd (cc (ap is_eq is))

upto_number : (a b : ℕ) → is_le (nat_cmp a b) ≡ true → a ≤ b
upto_number a b is = grind (arith, nat_tests)

nothing_by : {X : Type 0} (o : Option X) → (is_some o ≡ true → ⊥) → o ≡ None
nothing_by None never = refl
nothing_by (Some x) never = absurd (never refl)

-- the next behind none is the first
pub first_task : (there : Id → ℕ → Bool) (id : Id) (number : ℕ) → IsNextBehind there None (id, number) → IsFirst there id number
first_task there id number f = record {
  found = f.found;
  first = λ other n is. no_later_by (id_cmp (key_of id) (key_of other)) (nat_cmp number n) (f.first (other, n) is refl);
  least = λ n is. upto_number number n (sym (then_equal_le (id_cmp (key_of id) (key_of id)) (nat_cmp number n) (tied_itself total-law (key_of id))) ∙ f.first (id, n) is refl);
}

pub no_first : {X : Type 0} (kept : Id → ℕ → Option X) → NoneBehind (λ i n. is_some (kept i n)) None → (id : Id) (number : ℕ) → kept id number ≡ None
no_first kept none id number = nothing_by (kept id number) (λ there. none (id, number) there refl)

pub none_then : {A P Q : Type 0} (r : Option A) → (P → Q) → IfNone r P → IfNone r Q
none_then None f p = f p
none_then (Some x) f p = tt
