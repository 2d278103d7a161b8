-- The order of timers goes with the timers.
use Rattle.std.proofs.Common.{◌≡◌, ◌&&◌, ◌==◌, ◌∙◌, ◌≤◌, ◌<◌, ℕ, Bool, true, false, Option, Some, None, is_some, refl, ap, sym, subst, cond, arith}
use Rattle.std.specs.declared.cmp.Ordering.{Ordering}
use Rattle.std.specs.declared.cmp.Ordering.TheVariants as orderings
use Rattle.std.proofs.lemmas.Map.Keys.{le_from_not_gt}
use Rattle.std.specs.Ordering.{is_gt, is_le, nat_cmp, ordering_then}
use Rattle.dura_value.specs.declared.addresses.Id.{Id}
use Rattle.dura_value.specs.Ids as plain
use Rattle.dura_value.specs.Views.{id_of}
use Rattle.dura_value.proofs.Ids.{id_same, id_self}
use Rattle.dura_value.specs.ById.{at_number}
use Rattle.shared_maps.specs.Ids.{id_cmp, key_of}
use Rattle.shared_maps.specs.Maps.{at_time, by_time}
use Rattle.shared_maps.specs.Order.{IsFirstTime}
use Rattle.shared_maps.proofs.Ids.{key_again, plain_again}
use Rattle.part_rows.specs.declared.timer.Timer.{Timer}
use Rattle.part_rows.specs.declared.timers.TimerRow.{TimerRow}
use Rattle.part_rows.specs.Timers.{timer_cmp, timer_of, timer_if, timers_in, is_at, InOrder, IsFirstDue, NoneDue, IsNext}
use Rattle.std.proofs.lemmas.Bool.{and_parts, eqb-true}
use Rattle.dura_value.proofs.Basics.{number_self}

pub timer_again : (k : Timer) → timer_of k.due (id_of k.id) k.task ≡ k
timer_again k = ap (λ (id : Id). record { due = k.due; id = id; task = k.task }) (key_again k.id)

-- ---- a timer is put in, or taken out

taken_at : (b d : Bool) (stamp due : ℕ) (id : plain.Id) (task : ℕ) (was : Option ℕ) (kept : Option Timer) → (stamp == due) ≡ d → (b ≡ true → was ≡ Some stamp)
    → kept ≡ timer_if (is_at was due) due id task → cond (d && b) None kept ≡ timer_if (is_at (cond b None was) due) due id task
taken_at true true stamp due id task was kept same found is = refl
taken_at true false stamp due id task was kept same found is =
    is ∙ ap (λ (w : Option ℕ). timer_if (is_at w due) due id task) (found refl) ∙ ap (λ (c : Bool). timer_if c due id task) same
taken_at false true stamp due id task was kept same found is = is
taken_at false false stamp due id task was kept same found is = is

put_at : (b d : Bool) (stamp due : ℕ) (id other : plain.Id) (task other_task : ℕ) (was : Option ℕ) (kept : Option Timer) → (stamp == due) ≡ d → (b ≡ true → was ≡ None)
    → (b ≡ true → timer_of stamp id task ≡ timer_of stamp other other_task)
    → kept ≡ timer_if (is_at was due) due other other_task → cond (d && b) (Some (timer_of stamp id task)) kept ≡ timer_if (is_at (cond b (Some stamp) was) due) due other other_task
put_at true true stamp due id other task other_task was kept same found alike is =
    ap Some (alike refl ∙ ap (λ (n : ℕ). timer_of n other other_task) (eqb-true stamp due same)) ∙ sym (ap (λ (c : Bool). timer_if c due other other_task) same)
put_at true false stamp due id other task other_task was kept same found alike is =
    is ∙ ap (λ (w : Option ℕ). timer_if (is_at w due) due other other_task) (found refl) ∙ sym (ap (λ (c : Bool). timer_if c due other other_task) same)
put_at false true stamp due id other task other_task was kept same found alike is = is
put_at false false stamp due id other task other_task was kept same found alike is = is

-- where an id and a number are those of a timer, they have what the timer has
found_at : {X : Type 0} (f : plain.Id → ℕ → X) (id other : plain.Id) (number other_number : ℕ) (x : X) → f id number ≡ x → plain.id_eq id other && number == other_number ≡ true → f other other_number ≡ x
found_at f id other number other_number x found is =
    let parts = and_parts (plain.id_eq id other) (number == other_number) is in
    ap (λ (i : plain.Id). f i other_number) (sym (id_same id other parts.0)) ∙ ap (f id) (sym (eqb-true number other_number parts.1)) ∙ found

-- an order has just the timers that there are
abbrev pub Lists : (ℕ → plain.Id → ℕ → Option Timer) → (plain.Id → ℕ → Option ℕ) → Type 0
Lists order timers = (due : ℕ) (id : plain.Id) (task : ℕ) → order due id task ≡ timer_if (is_at (timers id task) due) due id task

pub takes : (timers : plain.Id → ℕ → Option ℕ) (s n : ℕ → plain.Id → ℕ → Option Timer) (stamp : ℕ) (id : plain.Id) (task : ℕ) → timers id task ≡ Some stamp
    → Lists s timers → n ≡ at_time s stamp id task None → Lists n (at_number timers id task None)
takes timers s n stamp id task there before changes due other other_task =
    ap (λ (f : ℕ → plain.Id → ℕ → Option Timer). f due other other_task) changes
    ∙ taken_at (plain.id_eq id other && task == other_task) (stamp == due) stamp due other other_task (timers other other_task) (s due other other_task) refl
    (found_at timers id other task other_task (Some stamp) there) (before due other other_task)

pub puts : (timers : plain.Id → ℕ → Option ℕ) (s n : ℕ → plain.Id → ℕ → Option Timer) (stamp : ℕ) (id : plain.Id) (task : ℕ) → timers id task ≡ None
    → Lists s timers → n ≡ at_time s stamp id task (Some (timer_of stamp id task)) → Lists n (at_number timers id task (Some stamp))
puts timers s n stamp id task absent before changes due other other_task =
    ap (λ (f : ℕ → plain.Id → ℕ → Option Timer). f due other other_task) changes
    ∙ put_at (plain.id_eq id other && task == other_task) (stamp == due) stamp due id other task other_task (timers other other_task) (s due other other_task) refl
    (found_at timers id other task other_task None absent) (λ same. sym (found_at (timer_of stamp) id other task other_task (timer_of stamp id task) refl same)) (before due other other_task)

-- what is put at a place stands there
pub at_itself : {X : Type 0} (f : plain.Id → ℕ → X) (id : plain.Id) (number : ℕ) (x : X) → at_number f id number x id number ≡ x
at_itself f id number x = ap (λ (b : Bool). cond (b && number == number) x (f id number)) (id_self id) ∙ ap (λ (b : Bool). cond b x (f id number)) (number_self number)

twice_at : {X : Type 0} (b : Bool) (x y was : X) → cond b y (cond b x was) ≡ cond b y was
twice_at true x y was = refl
twice_at false x y was = refl

-- the last of two puts at a place stands
pub put_twice : {X : Type 0} (f : plain.Id → ℕ → X) (id : plain.Id) (number : ℕ) (x y : X) → at_number (at_number f id number x) id number y ≡ at_number f id number y
put_twice f id number x y = λ i other other_number. twice_at (plain.id_eq id other && number == other_number) x y (f other other_number) i

-- what is put where it stands changes nothing
same_at : {X : Type 0} (b : Bool) (x was : X) → (b ≡ true → was ≡ x) → cond b x was ≡ was
same_at true x was found = sym (found refl)
same_at false x was found = refl

pub put_same : {X : Type 0} (f : plain.Id → ℕ → X) (id : plain.Id) (number : ℕ) (x : X) → f id number ≡ x → at_number f id number x ≡ f
put_same f id number x there = λ i other other_number. same_at (plain.id_eq id other && number == other_number) x (f other other_number) (found_at f id other number other_number x there) i

-- ---- the first timer

pub is_at_itself : (due : ℕ) → is_at (Some due) due ≡ true
is_at_itself due = number_self due

pub is_at_true : (was : Option ℕ) (due : ℕ) → is_at was due ≡ true → was ≡ Some due
is_at_true None due is = absurd (cc is)
is_at_true (Some stamp) due is = ap Some (eqb-true stamp due is)

not_after : (a b : Ordering) → is_gt (ordering_then a b) ≡ false → is_gt a ≡ false
not_after orderings.Less b is = refl
not_after orderings.Equal b is = refl
not_after orderings.Greater b is = is

not_gt : (o : Ordering) → is_le o ≡ true → is_gt o ≡ false
not_gt orderings.Less is = refl
not_gt orderings.Equal is = refl
not_gt orderings.Greater is = absurd (cc is)

same_timer : (a b : Timer) → Some a ≡ Some b → a ≡ b
same_timer a b is = cc is

there_if : (b : Bool) (due : ℕ) (id : plain.Id) (task : ℕ) (k : Timer) → timer_if b due id task ≡ Some k → (b ≡ true) × (timer_of due id task ≡ k)
there_if true due id task k is = (refl, same_timer (timer_of due id task) k is)
there_if false due id task k is = absurd (cc is)

-- a timer is in the order
pub is_in : (row : TimerRow) (due : ℕ) (id : plain.Id) (task : ℕ) → InOrder row → timers_in row id task ≡ Some due → by_time row.order due id task ≡ Some (timer_of due id task)
is_in row due id task in_order there =
    in_order due id task ∙ ap (λ (w : Option ℕ). timer_if (is_at w due) due id task) there ∙ ap (λ (b : Bool). timer_if b due id task) (is_at_itself due)

-- A timer of a row that is due no later than any other.
pub record Leads (row : TimerRow) (k : Timer) : Type 0 where
  pub there : timers_in row (id_of k.id) k.task ≡ Some k.due
  pub least : (due : ℕ) (id : plain.Id) (task : ℕ) → timers_in row id task ≡ Some due → is_gt (timer_cmp k (timer_of due id task)) ≡ false

abbrev pub IsFirstOf : TimerRow → Timer → Type 0
IsFirstOf row k = (time : ℕ) × (id : plain.Id) × (number : ℕ) × (by_time row.order time id number ≡ Some k) × IsFirstTime (λ t i n. is_some (by_time row.order t i n)) time id number

pub leads : (row : TimerRow) (k : Timer) → InOrder row → IsFirstOf row k → Leads row k
leads row k in_order is =
    let time = is.0 in
    let id = is.1 in
    let number = is.2 in
    let both = there_if (is_at (timers_in row id number) time) time id number k (sym (in_order time id number) ∙ is.3) in
    subst (Leads row) both.1 (record {
      there = ap (λ (i : plain.Id). timers_in row i number) (plain_again id) ∙ is_at_true (timers_in row id number) time both.0;
      least = λ due other task there. not_gt (timer_cmp (timer_of time id number) (timer_of due other task)) (is.4.first due other task (ap is_some (is_in row due other task in_order there)));
    })

module _ (row : TimerRow) (k : Timer) (f : Leads row k) where
  pub least_due : (due : ℕ) (id : plain.Id) (task : ℕ) → timers_in row id task ≡ Some due → k.due ≤ due
  least_due due id task there = le_from_not_gt k.due due (not_after (nat_cmp k.due due) (ordering_then (id_cmp k.id (key_of id)) (nat_cmp k.task task)) (f.least due id task there))

  pub first_due : (now : ℕ) → k.due ≤ now → IsFirstDue (timers_in row) now k.due (id_of k.id) k.task
  first_due now in_time = record {
    there = f.there;
    in_time = in_time;
    first = λ due id task there. ap (λ (t : Timer). is_gt (timer_cmp t (timer_of due id task))) (timer_again k) ∙ f.least due id task there;
  }

  pub none_due : (now : ℕ) → now < k.due → NoneDue (timers_in row) now
  none_due now late due id task there = omega (arith, least_due due id task there, late)

  pub next_due : IsNext (timers_in row) k.due
  next_due = record { there = (id_of k.id, k.task, f.there); least = λ due id task there. least_due due id task there }

-- where nothing is in the order there is no timer
pub none_there : (row : TimerRow) → InOrder row → ((due : ℕ) (id : plain.Id) (task : ℕ) → by_time row.order due id task ≡ None) → (id : plain.Id) (task : ℕ) → timers_in row id task ≡ None
none_there row in_order empty id task = elim (timers_in row id task) as (λ w. timers_in row id task ≡ w → w ≡ None) [
  | None ↦ λ is. refl
  | Some due ↦ λ is. absurd (cc (sym (is_in row due id task in_order is) ∙ empty due id task))
] refl
