-- Where ids are kept: by a digest first.
use Rattle.std.specs.Prelude.{ℕ, ◌*◌, ◌%◌, ◌^◌, bit_xor, ◌+◌, ◌==◌, ◌&&◌, Bool, Option, Some, None, is_some, option_map}
use Rattle.dura_value.specs.Digest.{fnv1a_64}
use Rattle.dura_value.specs.Ids.{Id, orchestration, entity, client}
use Rattle.shared_trees.specs.Ids.{key_of}
use Rattle.shared_trees.specs.Places.{Place}

-- a digest of an id
abbrev pub digest_of : Id → ℕ
digest_of (client name) = fnv1a_64 name
digest_of (entity class key) = bit_xor (fnv1a_64 class * 31 % 2 ^ 64) (fnv1a_64 key)
digest_of (orchestration flow key) = bit_xor (fnv1a_64 flow * 37 % 2 ^ 64) (fnv1a_64 key)

-- where something is kept for an id and a number
abbrev pub hashed_place : Id → ℕ → Place
hashed_place id number = record { lead = digest_of id; id = Some (key_of id); number = number }

-- where something is kept for an id and a number in the order of ids
abbrev pub task_place : Id → ℕ → Place
task_place id number = record { lead = 0; id = Some (key_of id); number = number }

-- from where on places are behind this one
abbrev pub next_place : Place → Place
next_place place = record { lead = place.lead; id = place.id; number = place.number + 1 }

-- from where on tasks are behind the last one
abbrev pub behind_task : Option (Id × ℕ) → Place
behind_task None = record { lead = 0; id = None; number = 0 }
behind_task (Some last) = task_place last.0 (last.1 + 1)

-- whether something is kept in the order of ids
abbrev pub is_task_place : Place → Bool
is_task_place place = place.lead == 0 && is_some place.id

-- whether an id is kept here in the order of ids
abbrev pub is_id_place : Place → Bool
is_id_place place = is_task_place place && place.number == 0

-- from where on ids are behind the last one
abbrev pub behind_id : Option Id → Place
behind_id last = behind_task (option_map (λ id. (id, 0)) last)

-- where something is kept for a stamp, an id and a number
abbrev pub time_place : ℕ → Id → ℕ → Place
time_place time id number = record { lead = time; id = Some (key_of id); number = number }

-- whether something is kept for a stamp, an id and a number
abbrev pub is_time_place : Place → Bool
is_time_place place = is_some place.id

-- from where on stamps, ids and numbers are behind the last ones
abbrev pub behind_time : Option (ℕ × Id × ℕ) → Place
behind_time None = record { lead = 0; id = None; number = 0 }
behind_time (Some last) = time_place last.0 last.1 (last.2 + 1)
