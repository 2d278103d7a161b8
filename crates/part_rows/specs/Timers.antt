-- The timers of a partition, and which is due first.
use Rattle.std.specs.Prelude.{◌≡◌, ℕ, ◌≤◌, ◌<◌, ◌==◌, ◌&&◌, Bool, false, not, nat_lt, List, Option, Some, None, if◌then◌else◌}
use Rattle.std.specs.List.{IsDistinct}
use Rattle.std.specs.Set.{is_member}
use Rattle.std.specs.declared.cmp.Ordering.{Ordering}
use Rattle.std.specs.Ordering.{is_gt}
use Rattle.dura_value.specs.Ids.{Id, id_eq}
use Rattle.shared_maps.specs.Ids.{key_of}
use Rattle.shared_maps.specs.Maps.{by_number, by_time}
use Rattle.part_rows.specs.declared.timer.Timer.{Timer}
use Rattle.part_rows.specs.declared.timers.TimerRow.{TimerRow}
use Rattle.part_rows.specs.contracts.timer.TimerOrd.TheImpl as ord

-- the order of timers: by the stamp that they are due at, then by id, then by task
abbrev pub timer_cmp : Timer → Timer → Ordering
timer_cmp = ord.cmp-value.it

-- a task's timer
abbrev pub timer_of : ℕ → Id → ℕ → Timer
timer_of due id task = record { due = due; id = key_of id; task = task }

-- when the timer of an instance's task is due
abbrev pub timers_in : TimerRow → Id → ℕ → Option ℕ
timers_in row = by_number row.stamps

abbrev pub is_at : Option ℕ → ℕ → Bool
is_at None due = false
is_at (Some stamp) due = stamp == due

-- a task's timer, if it is due at a stamp
abbrev pub timer_if : Bool → ℕ → Id → ℕ → Option Timer
timer_if is due id task = if is then Some (timer_of due id task) else None

-- The order has just the timers that there are.
abbrev pub InOrder : TimerRow → Type 0
InOrder row = (due : ℕ) (id : Id) (task : ℕ) → by_time row.order due id task ≡ timer_if (is_at (timers_in row id task) due) due id task

-- the first timer of these, which is due by now
pub record IsFirstDue (timers : Id → ℕ → Option ℕ) (now due : ℕ) (id : Id) (task : ℕ) : Type 0 where
  pub there : timers id task ≡ Some due
  pub in_time : due ≤ now
  pub first : (other_due : ℕ) (other : Id) (other_task : ℕ) → timers other other_task ≡ Some other_due → is_gt (timer_cmp (timer_of due id task) (timer_of other_due other other_task)) ≡ false

-- none is due by now
abbrev pub NoneDue : (Id → ℕ → Option ℕ) → ℕ → Type 0
NoneDue timers now = (due : ℕ) (id : Id) (task : ℕ) → timers id task ≡ Some due → now < due

-- the least stamp that one is due at
pub record IsNext (timers : Id → ℕ → Option ℕ) (due : ℕ) : Type 0 where
  pub there : (id : Id) × (task : ℕ) × (timers id task ≡ Some due)
  pub least : (other_due : ℕ) (other : Id) (other_task : ℕ) → timers other other_task ≡ Some other_due → due ≤ other_due

-- there is none
abbrev pub NoTimer : (Id → ℕ → Option ℕ) → Type 0
NoTimer timers = (id : Id) (task : ℕ) → timers id task ≡ None

-- whether a timer is due by now
abbrev pub is_due : Option ℕ → ℕ → Bool
is_due None now = false
is_due (Some due) now = not (nat_lt now due)

-- whether two are one task of one instance
abbrev pub is_same_task : Id × ℕ → Id × ℕ → Bool
is_same_task a b = id_eq a.0 b.0 && a.1 == b.1

-- These are the tasks whose timers are due by now, each once.
pub record AreDue (timers : Id → ℕ → Option ℕ) (now : ℕ) (due : List (Id × ℕ)) : Type 0 where
  pub are : (task : Id × ℕ) → is_member is_same_task due task ≡ is_due (timers task.0 task.1) now
  pub once : IsDistinct is_same_task due
