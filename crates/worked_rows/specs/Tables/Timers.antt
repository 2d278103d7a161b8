-- Which timers are due, and which of them first.
use Rattle.std.specs.Prelude.{◌≡◌, ℕ, codes, Option, Some, None}
use Rattle.dura_value.specs.Ids.{Id, orchestration}
use Rattle.shared_maps.specs.Maps.{no_number}
use Rattle.dura_value.specs.ById.{at_number, cleared}
use Rattle.part_rows.specs.Timers.{IsFirstDue, NoneDue, IsNext}

abbrev pub sum_x : Id
sum_x = orchestration (codes "Sum") (codes "x")

abbrev pub draw_x : Id
draw_x = orchestration (codes "Draw") (codes "x")

abbrev pub draw_y : Id
draw_y = orchestration (codes "Draw") (codes "y")

-- four timers, three of which are due at one stamp
abbrev pub timers : Id → ℕ → Option ℕ
timers = at_number (at_number (at_number (at_number no_number sum_x 0 (Some 40)) draw_y 1 (Some 30)) draw_x 3 (Some 30)) draw_x 2 (Some 30)

-- an instance has ended
abbrev pub without_one : Id → ℕ → Option ℕ
without_one = cleared timers draw_x

-- and a timer has fired
abbrev pub last_alone : Id → ℕ → Option ℕ
last_alone = at_number without_one draw_y 1 None

abbrev pub TimersAgree : Type 0
TimersAgree =
    (timers draw_x 3 ≡ Some 30)
    × (timers draw_y 3 ≡ None)
    -- one that is set again has its new stamp alone
    × (at_number (at_number timers draw_x 3 (Some 20)) draw_x 3 (Some 30) draw_x 3 ≡ Some 30)
    × (without_one draw_x 3 ≡ None)
    × (without_one draw_y 1 ≡ Some 30)
    × (last_alone draw_y 1 ≡ None)
    × (last_alone sum_x 0 ≡ Some 40)

-- The timers of one stamp go by id, then by task.
pub record GoInOrder : Type 0 where
  pub none_at_first : NoneDue timers 0
  pub none_before : NoneDue timers 29
  pub first : IsFirstDue timers 30 30 draw_x 2
  pub first_later : IsFirstDue timers 31 30 draw_x 2
  pub next : IsNext timers 30
  pub second : IsFirstDue without_one 30 30 draw_y 1
  pub last : IsNext last_alone 40
