-- What is kept for stamps, in their order.
use Rattle.std.proofs.Common.{◌≡◌, ◌∙◌, ℕ, true, false, not, Option, Some, None, is_some, refl, ap, sym, nat_lt, Result, Ok, Err, OnErr, Ordering, Less, Equal, Greater, arith}
use Rattle.std.proofs.lemmas.Bool.Decides.{nat_tests}
use Rattle.std.specs.Ordering.{is_lt, nat_cmp, ordering_then}
use Rattle.dura_value.specs.declared.addresses.Id.{Id as Address}
use Rattle.dura_value.specs.Ids.{Id}
use Rattle.dura_value.specs.Views.{id_of}
use Rattle.shared_maps.specs.Digests.{behind_time, time_place, is_time_place}
use Rattle.shared_trees.specs.Entries.{IsFirstFrom, NoneFrom}
use Rattle.shared_trees.specs.Ids.{key_of}
use Rattle.shared_maps.specs.Order.{time_cmp, is_behind_time, IsFirstTime, IsNextTime, NoTimeBehind}
use Rattle.shared_trees.specs.Places.{Place, is_before}
use Rattle.shared_trees.proofs.Ids.{key_again}
use Rattle.shared_maps.proofs.Numbers.{lt_cmp}
use Rattle.shared_trees.proofs.Orders.{places_total}
use Rattle.shared_maps.proofs.Passing.{before_next}
use Rattle.shared_maps.proofs.Tasks.{le_by, not_false, not_true, some_id, there_by}

-- before all stamps
abbrev pub first_place : Place
first_place = record { lead = 0; id = None; number = 0 }

id_in : (o : Option Address) → is_some o ≡ true → (id : Id) × (o ≡ Some (key_of id))
id_in None is = absurd (cc is)
id_in (Some k) is = (id_of k, ap Some (sym (key_again k)))

-- a place of a stamp is that of its stamp, its id and its number
pub time_alone : (p : Place) → is_time_place p ≡ true → (id : Id) × (p ≡ time_place p.lead id p.number)
time_alone p is =
    let found = id_in p.id is in
    let ids = found.1 in
    (found.0, λ i. record { lead = p.lead; id = ids i; number = p.number })

none_less : (n : ℕ) → nat_lt n 0 ≡ false
none_less n = grind (arith, nat_tests)

not_less : (r : Ordering) → is_lt r ≡ false → is_lt (ordering_then r Greater) ≡ false
not_less Less is = is
not_less Equal is = refl
not_less Greater is = refl

pub none_before : (time : ℕ) (id : Id) (number : ℕ) → is_before (time_place time id number) first_place ≡ false
none_before time id number = not_less (nat_cmp time 0) (lt_cmp time 0 ∙ none_less time)

module _ {X : Type 0} (kept : Place → Option X) where
  pub first_time : (p : Place) (x : X) (time : ℕ) (id : Id) (number : ℕ) → p ≡ time_place time id number → IsFirstFrom kept first_place p x
      → (kept (time_place time id number) ≡ Some x) × IsFirstTime (λ t i n. is_some (kept (time_place t i n))) time id number
  first_time p x time id number is f = (
    ap kept (sym is) ∙ f.found,
    record {
      found = ap (λ q. is_some (kept q)) (sym is) ∙ ap is_some f.found;
      first = λ t i n there.
          le_by (time_cmp (time, id, number) (t, i, n))
          (ap is_lt (sym (places_total.antisymm (time_place t i n) (time_place time id number)))
          ∙ ap (is_before (time_place t i n)) (sym is)
          ∙ f.first (time_place t i n) there (none_before t i n));
    },
  )

  pub no_time_at : NoneFrom kept first_place → (time : ℕ) (id : Id) (number : ℕ) → kept (time_place time id number) ≡ None
  no_time_at none time id number = none (time_place time id number) (none_before time id number)

-- what holds, holds after an Err
pub on_any_err : {A E P : Type 0} (r : Result A E) → P → OnErr r P
on_any_err (Ok x) holds = tt
on_any_err (Err e) holds = holds

-- ---- the next behind the last

-- a place of a stamp and an id is that of both and its number
pub time_there : (p : Place) (id : Address) → p.id ≡ Some id → p ≡ time_place p.lead (id_of id) p.number
time_there p id found =
    let ids : p.id ≡ Some (key_of (id_of id)) = found ∙ ap Some (sym (key_again id)) in
    λ i. record { lead = p.lead; id = ids i; number = p.number }

pub never_without_id : (p : Place) → is_time_place p ≡ true → p.id ≡ None → ⊥
never_without_id p is none = some_id p.id is none

-- what is behind the last is what doesn't come before the place behind it
behind_or_before_time : (last : Option (ℕ × Id × ℕ)) (at : ℕ × Id × ℕ) → is_before (time_place at.0 at.1 at.2) (behind_time last) ≡ not (is_behind_time last at)
behind_or_before_time None at = none_before at.0 at.1 at.2
behind_or_before_time (Some last) at = before_next (time_place at.0 at.1 at.2) (time_place last.0 last.1 last.2)

module _ {X : Type 0} (kept : Place → Option X) (last : Option (ℕ × Id × ℕ)) where
  pub next_time : (p : Place) (x : X) (at : ℕ × Id × ℕ) → p ≡ time_place at.0 at.1 at.2 → IsFirstFrom kept (behind_time last) p x
      → IsNextTime (λ t i n. is_some (kept (time_place t i n))) last at
  next_time p x at is f = record {
    found = ap (λ q. is_some (kept q)) (sym is) ∙ ap is_some f.found;
    behind = not_false (is_behind_time last at) (sym (behind_or_before_time last at) ∙ ap (λ q. is_before q (behind_time last)) (sym is) ∙ f.behind);
    first = λ other found behind.
        le_by (time_cmp at other)
        (ap is_lt (sym (places_total.antisymm (time_place other.0 other.1 other.2) (time_place at.0 at.1 at.2)))
        ∙ ap (is_before (time_place other.0 other.1 other.2)) (sym is)
        ∙ f.first (time_place other.0 other.1 other.2) found (behind_or_before_time last other ∙ not_true (is_behind_time last other) behind));
  }

  pub no_time_behind : NoneFrom kept (behind_time last) → NoTimeBehind (λ t i n. is_some (kept (time_place t i n))) last
  no_time_behind none = λ at found behind.
      there_by (kept (time_place at.0 at.1 at.2)) found (none (time_place at.0 at.1 at.2) (behind_or_before_time last at ∙ not_true (is_behind_time last at) behind))
