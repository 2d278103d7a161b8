-- A look passes each task that is out at most once.
use Rattle.std.proofs.Common.{◌≡◌, ◌<◌, ℕ, Bool, true, Option, Some, None, is_some, option_map, refl}
use Rattle.dura_value.specs.Ids as plain
use Rattle.shared_maps.specs.Digests.{task_place}
use Rattle.shared_maps.specs.Entries.{Entries}
use Rattle.shared_maps.specs.Maps.{by_task}
use Rattle.shared_maps.specs.Order.{is_behind}
use Rattle.shared_maps.specs.Places.{Place}
use Rattle.shared_maps.proofs.Passing as places
use Rattle.shared_maps.proofs.Passing.{count_at}

-- where the last task is kept
abbrev pub last_place : Option (plain.Id × ℕ) → Option Place
last_place last = option_map (λ task. task_place task.0 task.1) last

-- whether a place is behind that of the last task
abbrev pub is_past : Option (plain.Id × ℕ) → Place → Bool
is_past last = places.is_past (last_place last)

-- what is behind the last task is past its place
behind_past : (last : Option (plain.Id × ℕ)) (id : plain.Id) (task : ℕ) → is_behind last (id, task) ≡ true → is_past last (task_place id task) ≡ true
behind_past None id task is = refl
behind_past (Some l) id task is = is

-- behind a task that is out there are fewer
pub passes : {X : Type 0} (entries : Entries X) (last : Option (plain.Id × ℕ)) (id : plain.Id) (task : ℕ) → is_behind last (id, task) ≡ true → is_some (by_task entries id task) ≡ true
    → count_at (is_past (Some (id, task))) entries < count_at (is_past last) entries
passes entries last id task behind out = places.passes entries (last_place last) (task_place id task) (behind_past last id task behind) out
