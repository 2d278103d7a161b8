-- What maps hold, as functions.
use Rattle.std.specs.Prelude.{ℕ, Bool, ◌==◌, ◌&&◌, Option, None, is_some, if◌then◌else◌}
use Rattle.dura_value.specs.Ids.{Id, id_eq}
use Rattle.shared_maps.specs.declared.id_map.IdMap.{IdMap}
use Rattle.shared_maps.specs.declared.number_map.NumberMap.{NumberMap}
use Rattle.shared_maps.specs.Digests.{hashed_place, task_place, time_place}
use Rattle.shared_trees.specs.Entries.{Entries, find}
use Rattle.shared_trees.specs.Places.{key_place}

-- what is kept under a number
abbrev pub by_key : {X : Type 0} → Entries X → ℕ → Option X
by_key tree key = find tree (key_place key)

-- nothing is kept under any number
abbrev pub no_key : {X : Type 0} → ℕ → Option X
no_key key = None

-- at one number this, elsewhere as before
abbrev pub at_key : {X : Type 0} → (ℕ → X) → ℕ → X → ℕ → X
at_key f key x other = if key == other then x else f other

-- what is kept for an id
abbrev pub by_id : {X : Type 0} → IdMap X → Id → Option X
by_id map id = find map.entries (hashed_place id 0)

-- nothing is kept
abbrev pub nothing : {X : Type 0} → Id → Option X
nothing id = None

-- what is kept for an id and a number
abbrev pub by_number : {X : Type 0} → NumberMap X → Id → ℕ → Option X
by_number map id number = find map.entries (hashed_place id number)

-- what is kept for an id and a number, in the order of ids
abbrev pub by_task : {X : Type 0} → Entries X → Id → ℕ → Option X
by_task map id number = find map (task_place id number)

-- no number has anything
abbrev pub no_number : {X : Type 0} → Id → ℕ → Option X
no_number id number = None

-- whether an id is among these
abbrev pub has_id : Entries (Unit {0}) → Id → Bool
has_id ids id = is_some (find ids (task_place id 0))

-- what is kept for a stamp, an id and a number
abbrev pub by_time : {X : Type 0} → Entries X → ℕ → Id → ℕ → Option X
by_time map time id number = find map (time_place time id number)

-- no stamp has anything
abbrev pub no_time : {X : Type 0} → ℕ → Id → ℕ → Option X
no_time time id number = None

-- at one stamp, id and number this, elsewhere as before
abbrev pub at_time : {X : Type 0} → (ℕ → Id → ℕ → X) → ℕ → Id → ℕ → X → ℕ → Id → ℕ → X
at_time f time id number x other_time other other_number =
    if time == other_time && (id_eq id other && number == other_number) then x else f other_time other other_number
