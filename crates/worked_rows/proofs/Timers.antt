-- What all of some timers have.
use Rattle.std.proofs.Common.{◌≡◌, ◌&&◌, ◌==◌, ◌<◌, ◌≤◌, ℕ, Bool, true, false, Option, Some, None, refl, subst, cond, arith}
use Rattle.std.specs.Ordering.{is_gt}
use Rattle.dura_value.specs.Ids.{Id, id_eq}
use Rattle.dura_value.proofs.Ids.{id_same}
use Rattle.shared_maps.specs.Maps.{no_number}
use Rattle.dura_value.specs.ById.{at_number}
use Rattle.part_rows.specs.Timers.{timer_cmp, timer_of, IsFirstDue, NoneDue}
use Rattle.worked_rows.specs.Tables.Timers.{sum_x, draw_x, draw_y, timers, without_one, GoInOrder}
use Rattle.std.proofs.lemmas.Bool.{and_parts, eqb-true}

abbrev All : (Id → ℕ → ℕ → Type 0) → (Id → ℕ → Option ℕ) → Type 0
All Q f = (due : ℕ) (id : Id) (task : ℕ) → f id task ≡ Some due → Q id task due

some_same : (a b : ℕ) → Some a ≡ Some b → a ≡ b
some_same a b is = cc is

of_none : (Q : Id → ℕ → ℕ → Type 0) → All Q no_number
of_none Q due id task is = absurd (cc is)

at_one : (Q : Id → ℕ → ℕ → Type 0) (f : Id → ℕ → Option ℕ) (id other : Id) (task number due d : ℕ) (b : Bool) → id_eq id other && task == number ≡ b
    → All Q f → Q id task due → cond b (Some due) (f other number) ≡ Some d → Q other number d
at_one Q f id other task number due d true same all one is =
    let parts = and_parts (id_eq id other) (task == number) same in
    subst (λ (n : ℕ). Q other n d) (eqb-true task number parts.1)
    (subst (λ (i : Id). Q i task d) (id_same id other parts.0)
    (subst (λ (m : ℕ). Q id task m) (some_same due d is) one))
at_one Q f id other task number due d false same all one is = all d other number is

-- one more that has it
put : (Q : Id → ℕ → ℕ → Type 0) (f : Id → ℕ → Option ℕ) (id : Id) (task due : ℕ) → All Q f → Q id task due → All Q (at_number f id task (Some due))
put Q f id task due all one d other number is = at_one Q f id other task number due d (id_eq id other && task == number) refl all one is

without : (b : Bool) (was : Option ℕ) (due : ℕ) → cond b None was ≡ Some due → (b ≡ false) × (was ≡ Some due)
without true was due is = absurd (cc is)
without false was due is = (refl, is)

taken : (Q : Id → ℕ → ℕ → Type 0) (f : Id → ℕ → Option ℕ) (id : Id) (task : ℕ) → All Q f → All Q (at_number f id task None)
taken Q f id task all d other number is = all d other number (without (id_eq id other && task == number) (f other number) d is).1

-- all that these four have
all_four : (Q : Id → ℕ → ℕ → Type 0) → Q sum_x 0 40 → Q draw_y 1 30 → Q draw_x 3 30 → Q draw_x 2 30 → All Q timers
all_four Q a b c d = put Q _ draw_x 2 30 (put Q _ draw_x 3 30 (put Q _ draw_y 1 30 (put Q _ sum_x 0 40 (of_none Q) a) b) c) d

-- of another instance
abbrev Other : (Id → ℕ → ℕ → Type 0) → Id → ℕ → ℕ → Type 0
Other Q id task due = id_eq draw_x id ≡ false → Q id task due

two_left : (Q : Id → ℕ → ℕ → Type 0) → Q sum_x 0 40 → Q draw_y 1 30 → All Q without_one
two_left Q a b d other number is =
    let left = without (id_eq draw_x other) (timers other number) d is in
    all_four (Other Q) (λ e. a) (λ e. b) (λ e. absurd (cc e)) (λ e. absurd (cc e)) d other number left.1 left.0

abbrev Before : ℕ → Id → ℕ → Id → ℕ → ℕ → Type 0
Before due id task other number other_due = is_gt (timer_cmp (timer_of due id task) (timer_of other_due other number)) ≡ false

first_at : (now : ℕ) → 30 ≤ now → IsFirstDue timers now 30 draw_x 2
first_at now in_time = record { there = refl; in_time = in_time; first = all_four (Before 30 draw_x 2) refl refl refl refl }

late : (now : ℕ) → now < 30 → NoneDue timers now
late now early = all_four (λ id task due. now < due) (grind arith) early early early

pub go_in_order : GoInOrder
go_in_order = record {
  none_at_first = late 0 (grind arith);
  none_before = late 29 (grind arith);
  first = first_at 30 (grind arith);
  first_later = first_at 31 (grind arith);
  next = record { there = (draw_x, 2, refl); least = all_four (λ id task due. 30 ≤ due) (grind arith) (grind arith) (grind arith) (grind arith) };
  second = record { there = refl; in_time = grind arith; first = two_left (Before 30 draw_y 1) refl refl };
  last = record { there = (sum_x, 0, refl); least = λ due id task is. two_left (λ i t d. (id_eq draw_y i && 1 == t) ≡ false → 40 ≤ d) (λ e. grind arith) (λ e. absurd (cc e)) due id task (without (id_eq draw_y id && 1 == task) (without_one id task) due is).1 (without (id_eq draw_y id && 1 == task) (without_one id task) due is).0 };
}
