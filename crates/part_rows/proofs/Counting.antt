-- How many timers are due: those up to the last one that was passed, each once.
use Rattle.std.proofs.Common.{◌≡◌, ◌∙◌, ◌≤◌, ◌<◌, ◌+◌, ◌-◌, ◌^◌, ◌==◌, ◌&&◌, ◌||◌, ℕ, Bool, true, false, not, nat_lt, List, [], ◌∷◌, length, min, Option, Some, None, is_some, IfSome, option_map, suc, refl, ap, sym, subst, Ordering, Less, Equal, Greater, arith}
use Rattle.std.proofs.lemmas.Bool.{and_parts}
use Rattle.std.proofs.lemmas.Bool.Decides.{nat_tests}
use Rattle.std.proofs.lemmas.Map.Made.{length-from_same_keys}
use Rattle.std.specs.Cmp.{IsEquivalence}
use Rattle.std.specs.List.{AllByRecursion, IsDistinct}
use Rattle.std.specs.Ordering.{is_eq, is_le, is_lt, nat_cmp, ordering_then}
use Rattle.std.specs.Set.{is_member}
use Rattle.dura_value.proofs.Basics.{number_self}
use Rattle.dura_value.proofs.Ids.{and_true, id_same, id_self}
use Rattle.dura_value.specs.declared.addresses.Id.{Id as Address}
use Rattle.dura_value.specs.Ids.{Id, id_eq, client}
use Rattle.dura_value.specs.Views.{id_of}
use Rattle.shared_maps.specs.Digests.{time_place}
use Rattle.shared_maps.specs.Maps.{by_time}
use Rattle.shared_maps.specs.Order.{is_behind_time, task_cmp, time_cmp, IsNextTime, NoTimeBehind}
use Rattle.shared_maps.specs.Places.{Place, is_before}
use Rattle.shared_maps.proofs.Ids.{plain_again}
use Rattle.shared_maps.proofs.Orders.{before_trans, never, same_place}
use Rattle.shared_maps.proofs.Passing.{count_at, is_past, passes}
use Rattle.part_rows.specs.declared.timers.TimerRow.{TimerRow}
use Rattle.part_rows.specs.Timers.{timer_if, timers_in, is_at, is_due, is_same_task, AreDue, InOrder}
use Rattle.part_rows.proofs.Orders.{is_at_true, is_in}

-- ---- tasks that are the same

same_is : (a b : Id × ℕ) → is_same_task a b ≡ true → a ≡ b
same_is a b is =
    let parts = and_parts (id_eq a.0 b.0) (a.1 == b.1) is in
    let ids = id_same a.0 b.0 parts.0 in
    let numbers : a.1 ≡ b.1 = grind (arith, parts.1) in
    λ i. (ids i, numbers i)

same_self : (a : Id × ℕ) → is_same_task a a ≡ true
same_self a = and_true (id_eq a.0 a.0) (a.1 == a.1) (id_self a.0) (number_self a.1)

both_or_neither : (x y : Bool) → (x ≡ true → y ≡ true) → (y ≡ true → x ≡ true) → x ≡ y
both_or_neither true y there back = sym (there refl)
both_or_neither false true there back = back refl
both_or_neither false false there back = refl

turned : (a b : Id × ℕ) → is_same_task a b ≡ true → is_same_task b a ≡ true
turned a b is = subst (λ x. is_same_task x a ≡ true) (same_is a b is) (same_self a)

same_task_laws : IsEquivalence is_same_task
same_task_laws = record {
  refl = same_self;
  symm = λ a b. both_or_neither (is_same_task a b) (is_same_task b a) (turned a b) (turned b a);
  congr = λ a b c is. ap (λ x. is_same_task x c) (same_is a b is);
}

-- any two lists of the timers that are due are as long
pub one_count : (timers : Id → ℕ → Option ℕ) (now : ℕ) (one other : List (Id × ℕ)) → AreDue timers now one → AreDue timers now other → length one ≡ length other
one_count timers now one other a b = length-from_same_keys same_task_laws one other a.once b.once (λ task. a.are task ∙ sym (b.are task))

apart : (e : Id × ℕ → Id × ℕ → Bool) (x : Id × ℕ) (xs : List (Id × ℕ)) → is_member e xs x ≡ false → AllByRecursion (λ y. e x y ≡ false) xs
apart e x [] is = tt
apart e x (y ∷ ys) is = by (e x y) refl is (apart e x ys)
  where
    by : (b : Bool) → e x y ≡ b → (b || is_member e ys x) ≡ false → (is_member e ys x ≡ false → AllByRecursion (λ z. e x z ≡ false) ys) → (e x y ≡ false) × AllByRecursion (λ z. e x z ≡ false) ys
    by true at is rest = absurd (cc is)
    by false at is rest = (at, rest is)

once_more : (e : Id × ℕ → Id × ℕ → Bool) (x : Id × ℕ) (xs : List (Id × ℕ)) → is_member e xs x ≡ false → IsDistinct e xs → IsDistinct e (x ∷ xs)
unfolding IsDistinct
once_more e x xs is once = (apart e x xs is, once)

none_once : (e : Id × ℕ → Id × ℕ → Bool) → IsDistinct e []
unfolding IsDistinct
none_once e = tt

-- ---- the order of stamps

le_head : (r s : Ordering) → is_le (ordering_then r s) ≡ true → is_le r ≡ true
le_head Less s is = refl
le_head Equal s is = refl
le_head Greater s is = absurd (cc is)

lt_head : (r s : Ordering) → is_lt (ordering_then r s) ≡ false → is_lt r ≡ false
lt_head Less s is = absurd (cc is)
lt_head Equal s is = refl
lt_head Greater s is = refl

level : (r : Ordering) → is_le r ≡ true → is_lt r ≡ false → is_eq r ≡ true
level Less le lt = absurd (cc lt)
level Equal le lt = refl
level Greater le lt = absurd (cc le)

upto_stamp : (a b : ℕ) → is_le (nat_cmp a b) ≡ true → a ≤ b
upto_stamp a b is = grind (arith, nat_tests)

from_stamp : (a b : ℕ) → is_lt (nat_cmp a b) ≡ false → b ≤ a
from_stamp a b is = grind (arith, nat_tests)

late : (now due : ℕ) → now < due → nat_lt now due ≡ true
late now due is = grind (arith, nat_tests)

in_time : (now due : ℕ) → due ≤ now → nat_lt now due ≡ false
in_time now due is = grind (arith, nat_tests)

-- the place of a stamp, an id and a number
abbrev pub place_at : ℕ × Id × ℕ → Place
place_at at = time_place at.0 at.1 at.2

behind_past : (last : Option (ℕ × Id × ℕ)) (at : ℕ × Id × ℕ) → is_behind_time last at ≡ is_past (option_map place_at last) (place_at at)
behind_past None at = refl
behind_past (Some l) at = refl

passed_on : (last : Option (ℕ × Id × ℕ)) (at other : ℕ × Id × ℕ) → is_behind_time last at ≡ true → is_lt (time_cmp at other) ≡ true → is_behind_time last other ≡ true
passed_on None at other behind before = refl
passed_on (Some l) at other behind before = before_trans (place_at l) (place_at at) (place_at other) behind before

upto_now : (now : ℕ) (last : Option (ℕ × Id × ℕ)) (other : ℕ × Id × ℕ) → IfSome last (λ at. at.0 ≤ now) → is_behind_time last other ≡ false → other.0 ≤ now
upto_now now None other was is = absurd (cc is)
upto_now now (Some l) other was is = omega (arith, was, from_stamp l.0 other.0 (lt_head (nat_cmp l.0 other.0) (task_cmp (l.1, l.2) (other.1, other.2)) is))

-- where the last was in time, what is due later comes behind it
behind_now : (now : ℕ) (last : Option (ℕ × Id × ℕ)) (other : ℕ × Id × ℕ) → IfSome last (λ at. at.0 ≤ now) → nat_lt now other.0 ≡ true → is_behind_time last other ≡ true
behind_now now last other was later = by (is_behind_time last other) refl
  where
    by : (b : Bool) → is_behind_time last other ≡ b → b ≡ true
    by true is = refl
    by false is = absurd (let wrong = sym later ∙ in_time now other.0 (upto_now now last other was is) in cc wrong)

-- the id of a place, if it has one
abbrev id_in : Option Address → Id
id_in None = client []
id_in (Some id) = id_of id

-- ---- what was passed

-- whether a timer was passed
abbrev pub is_passed : Option (ℕ × Id × ℕ) → Option ℕ → Id × ℕ → Bool
is_passed last None task = false
is_passed last (Some due) task = not (is_behind_time last (due, task.0, task.1))

-- These are the tasks whose timers were passed, each once, and no timer that was passed is due later than now.
pub record ArePassed (timers : Id → ℕ → Option ℕ) (now : ℕ) (last : Option (ℕ × Id × ℕ)) (passed : List (Id × ℕ)) : Type 0 where
  pub are : (task : Id × ℕ) → is_member is_same_task passed task ≡ is_passed last (timers task.0 task.1) task
  pub once : IsDistinct is_same_task passed
  pub in_time : IfSome last (λ at. at.0 ≤ now)

none_at : (o : Option ℕ) (task : Id × ℕ) → false ≡ is_passed None o task
none_at None task = refl
none_at (Some due) task = refl

-- at first none was passed
pub none_passed : (timers : Id → ℕ → Option ℕ) (now : ℕ) → ArePassed timers now None []
none_passed timers now = record { are = λ task. none_at (timers task.0 task.1) task; once = none_once is_same_task; in_time = tt }

there_is : (b : Bool) (due : ℕ) (id : Id) (task : ℕ) → is_some (timer_if b due id task) ≡ b
there_is true due id task = refl
there_is false due id task = refl

module _ (row : TimerRow) (in_order : InOrder row) (now : ℕ) (last : Option (ℕ × Id × ℕ)) where
  abbrev there : ℕ → Id → ℕ → Bool
  there t i n = is_some (by_time row.order t i n)

  timer_there : (at : ℕ × Id × ℕ) → there at.0 at.1 at.2 ≡ true → timers_in row at.1 at.2 ≡ Some at.0
  timer_there at is =
      is_at_true (timers_in row at.1 at.2) at.0
      (sym (there_is (is_at (timers_in row at.1 at.2) at.0) at.0 at.1 at.2) ∙ ap is_some (sym (in_order at.0 at.1 at.2)) ∙ is)

  listed : (due : ℕ) (task : Id × ℕ) → timers_in row task.0 task.1 ≡ Some due → there due task.0 task.1 ≡ true
  listed due task is = ap is_some (is_in row due task.0 task.1 in_order is)

  module _ (at : ℕ × Id × ℕ) (next : IsNextTime there last at) where
    abbrev task_at : Id × ℕ
    task_at = (at.1, at.2)

    found : timers_in row at.1 at.2 ≡ Some at.0
    found = timer_there at next.found

    -- of another timer: it was passed before, or it comes behind this one
    module _ (due : ℕ) (task : Id × ℕ) (is : timers_in row task.0 task.1 ≡ Some due) where
      abbrev other : ℕ × Id × ℕ
      other = (due, task.0, task.1)

      no_earlier : is_behind_time last other ≡ true → is_le (time_cmp at other) ≡ true
      no_earlier behind = next.first other (listed due task is) behind

      same_by : is_behind_time last other ≡ true → is_lt (time_cmp at other) ≡ false → is_same_task task task_at ≡ true
      same_by behind off =
          let same = same_place (place_at at) (place_at other) (level (time_cmp at other) (no_earlier behind) off) in
          let ids = sym (plain_again at.1) ∙ ap id_in (λ i. (same i).id) ∙ plain_again task.0 in
          subst (λ x. is_same_task task x ≡ true) (λ i. (sym ids i, (sym same i).number)) (same_self task)

      agree : is_same_task task task_at ≡ false → is_behind_time last other ≡ is_lt (time_cmp at other)
      agree off = both_or_neither (is_behind_time last other) (is_lt (time_cmp at other)) (λ behind. by (is_lt (time_cmp at other)) refl behind) (passed_on last at other next.behind)
        where
          by : (b : Bool) → is_lt (time_cmp at other) ≡ b → is_behind_time last other ≡ true → b ≡ true
          by true is behind = refl
          by false is behind = absurd (let wrong = sym (same_by behind is) ∙ off in cc wrong)

      due_behind : IfSome last (λ at. at.0 ≤ now) → now < at.0 → is_behind_time last other ≡ nat_lt now due
      due_behind was later = both_or_neither (is_behind_time last other) (nat_lt now due)
          (λ behind. late now due (omega (arith, later, upto_stamp at.0 due (le_head (nat_cmp at.0 due) (task_cmp task_at task) (no_earlier behind)))))
          (behind_now now last other was)

    step : (task : Id × ℕ) (o : Option ℕ) → timers_in row task.0 task.1 ≡ o → (b : Bool) → is_same_task task task_at ≡ b → (b || is_passed last o task) ≡ is_passed (Some at) o task
    step task o is true same =
        let itself : is_passed (Some at) (timers_in row at.1 at.2) task_at ≡ true = ap (λ o. is_passed (Some at) o task_at) found ∙ ap not (never (place_at at)) in
        sym (ap (λ o. is_passed (Some at) o task) (sym is) ∙ ap (λ (t : Id × ℕ). is_passed (Some at) (timers_in row t.0 t.1) t) (same_is task task_at same) ∙ itself)
    step task None is false same = refl
    step task (Some due) is false same = ap not (agree due task is same)

    -- one more was passed
    pub next_passed : (passed : List (Id × ℕ)) → at.0 ≤ now → ArePassed (timers_in row) now last passed → ArePassed (timers_in row) now (Some at) (task_at ∷ passed)
    next_passed passed soon was = record {
      are = λ task. ap (λ b. is_same_task task task_at || b) (was.are task) ∙ step task (timers_in row task.0 task.1) refl (is_same_task task task_at) refl;
      once = once_more is_same_task task_at passed (was.are task_at ∙ ap (λ o. is_passed last o task_at) found ∙ ap not next.behind) was.once;
      in_time = soon;
    }

    due_by : IfSome last (λ at. at.0 ≤ now) → now < at.0 → (task : Id × ℕ) (o : Option ℕ) → timers_in row task.0 task.1 ≡ o → is_passed last o task ≡ is_due o now
    due_by was later task None is = refl
    due_by was later task (Some due) is = ap not (due_behind due task is was later)

    -- the next is due later, so those that were passed are all that are due
    pub passed_are_due : (passed : List (Id × ℕ)) → now < at.0 → ArePassed (timers_in row) now last passed → AreDue (timers_in row) now passed
    passed_are_due passed later was = record { are = λ task. was.are task ∙ due_by was.in_time later task (timers_in row task.0 task.1) refl; once = was.once }

  none_by : NoTimeBehind there last → IfSome last (λ at. at.0 ≤ now) → (task : Id × ℕ) (o : Option ℕ) → timers_in row task.0 task.1 ≡ o → is_passed last o task ≡ is_due o now
  none_by none was task None is = refl
  none_by none was task (Some due) is =
      let other : ℕ × Id × ℕ = (due, task.0, task.1) in
      ap not (both_or_neither (is_behind_time last other) (nat_lt now due) (λ behind. absurd (none other (listed due task is) behind)) (behind_now now last other was))

  -- none is left, so those that were passed are all that are due
  pub all_are_due : (passed : List (Id × ℕ)) → NoTimeBehind there last → ArePassed (timers_in row) now last passed → AreDue (timers_in row) now passed
  all_are_due passed none was = record { are = λ task. was.are task ∙ none_by none was.in_time task (timers_in row task.0 task.1) refl; once = was.once }

-- fewer are left behind the next
pub fewer_left : (row : TimerRow) (last : Option (ℕ × Id × ℕ)) (at : ℕ × Id × ℕ) → IsNextTime (λ t i n. is_some (by_time row.order t i n)) last at
    → count_at (is_past (Some (place_at at))) row.order < count_at (is_past (option_map place_at last)) row.order
fewer_left row last at next = passes row.order (option_map place_at last) (place_at at) (sym (behind_past last at) ∙ next.behind) next.found

-- ---- counting

-- These were passed, and so many they are, up to the greatest number that there is.
abbrev pub AreCounted : (Id → ℕ → Option ℕ) → ℕ → Option (ℕ × Id × ℕ) → ℕ → Type 0
AreCounted timers now last count = (passed : List (Id × ℕ)) × ArePassed timers now last passed × (count ≡ min (length passed) (2 ^ 64 - 1))

one_further : (n m most : ℕ) → m ≡ min n most → min (m + 1) most ≡ min (suc n) most
one_further n m most is = omega (arith, is)

pub none_counted : (timers : Id → ℕ → Option ℕ) (now : ℕ) → AreCounted timers now None 0
none_counted timers now = ([], none_passed timers now, refl)

pub next_counted : (row : TimerRow) (last : Option (ℕ × Id × ℕ)) (at : ℕ × Id × ℕ) (now count : ℕ) → InOrder row → IsNextTime (λ t i n. is_some (by_time row.order t i n)) last at → at.0 ≤ now
    → AreCounted (timers_in row) now last count → AreCounted (timers_in row) now (Some at) (min (count + 1) (2 ^ 64 - 1))
next_counted row last at now count in_order next soon was =
    ((at.1, at.2) ∷ was.0, next_passed row in_order now last at next was.0 soon was.1, one_further (length was.0) count (2 ^ 64 - 1) was.2)
