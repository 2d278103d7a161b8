-- Where in a tree something is kept.
use Rattle.std.specs.Prelude.{ℕ, Bool, Option, None, is_none, option_map, ◌&&◌, ◌==◌}
use Rattle.std.specs.Option.{option_cmp}
use Rattle.std.specs.Arc.{arc_value}
use Rattle.std.specs.Ordering.{nat_cmp, ordering_then, is_eq, is_lt}
use Rattle.std.specs.declared.cmp.Ordering.{Ordering}
use Rattle.std.specs.declared.alloc.Global.{Global}
use Rattle.std.specs.declared.sync.Arc.{Arc}
use Rattle.dura_value.specs.declared.addresses.Id.{Id}
use Rattle.shared_trees.specs.declared.keys.Key.{Key}
use Rattle.shared_trees.specs.declared.keys.Sought.{Sought}
use Rattle.shared_trees.specs.Ids.{id_cmp}

-- A number, an id and a second number.
pub record Place : Type 0 where
  pub lead : ℕ
  pub id : Option Id
  pub number : ℕ

-- by the first number, then by the id, then by the second number
abbrev pub place_cmp : Place → Place → Ordering
place_cmp a b = ordering_then (nat_cmp a.lead b.lead) (ordering_then (option_cmp id_cmp a.id b.id) (nat_cmp a.number b.number))

-- whether one place comes before another
abbrev pub is_before : Place → Place → Bool
is_before a b = is_lt (place_cmp a b)

-- whether two places are one
abbrev pub is_same : Place → Place → Bool
is_same a b = is_eq (place_cmp a b)

-- whether two places differ by their second numbers alone
abbrev pub is_beside : Place → Place → Bool
is_beside a b = is_eq (ordering_then (nat_cmp a.lead b.lead) (option_cmp id_cmp a.id b.id))

-- the id that a key shares
abbrev pub shared_id : Option (Arc Id Global) → Option Id
shared_id = option_map arc_value

-- where a key stands
abbrev pub place_of : Key → Place
place_of key = record { lead = key.lead; id = shared_id key.id; number = key.number }

-- where a key stands that is looked for
abbrev pub place_sought : Sought → Place
place_sought sought = record { lead = sought.lead; id = option_map (λ id. id.now) sought.id; number = sought.number }

-- where something is kept under a number alone
abbrev pub key_place : ℕ → Place
key_place key = record { lead = key; id = None; number = 0 }

-- whether something is kept under a number alone
abbrev pub is_key_place : Place → Bool
is_key_place place = is_none place.id && place.number == 0
