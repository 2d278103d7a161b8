-- Which tasks are out.
use Rattle.std.specs.Prelude.{◌≡◌, ℕ, ◌&&◌, Bool, true, false, not, Option, option_map, is_some}
use Rattle.dura_value.specs.Ids.{Id}
use Rattle.dura_value.specs.Views.{id_of}
use Rattle.shared_maps.specs.Order.{is_behind}
use Rattle.shared_maps.specs.Maps.{by_task}
use Rattle.cell_tasks.specs.declared.given_out.GivenOut.{GivenOut}

-- whether a task was given out
abbrev pub is_out : GivenOut → Id → ℕ → Bool
is_out given id task = is_some (by_task given.tasks id task)

-- none was
abbrev pub none_out : Id → ℕ → Bool
none_out id task = false

-- the task that a look begins behind
abbrev pub last_of : GivenOut → Option (Id × ℕ)
last_of given = option_map (λ task. (id_of task.0, task.1)) given.last

-- whether a task is to be given out: it is there, and isn't out
abbrev pub is_due : (there : Id → ℕ → Bool) → GivenOut → Id → ℕ → Bool
is_due there given id task = there id task && not (is_out given id task)

-- each task that is there is out
abbrev pub AllOut : (there : Id → ℕ → Bool) → GivenOut → Type 0
AllOut there given = (id : Id) (task : ℕ) → there id task ≡ true → is_out given id task ≡ true

-- each task that is there is out, up to the one that a look begins behind
abbrev pub IsAhead : GivenOut → (there : Id → ℕ → Bool) → Type 0
IsAhead given there = (id : Id) (task : ℕ) → there id task ≡ true → is_behind (last_of given) (id, task) ≡ false → is_out given id task ≡ true
