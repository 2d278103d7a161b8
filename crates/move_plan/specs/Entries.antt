-- The move or the stop that an entry is.
use Rattle.std.specs.Prelude.{ℕ, ◌+◌, List, codes, nat_le, nat_lt, Option, Some}
use Rattle.std.specs.Option.{option_map_or}
use Rattle.serde_json.specs.Data.{Data, Items, no_items}
use Rattle.serde_json.specs.Find.{get, as_array, as_number, as_u64}
use Rattle.dura_value.specs.Optional.{◌>>=◌, guard, where_it}
use Rattle.request_reader.specs.Json.{has_members, one_if}
use Rattle.move_plan.specs.declared.entries.Move.{Move}
use Rattle.move_plan.specs.declared.entries.Stop.{Stop}

-- the parts of the list under this key, none where there is no member
abbrev pub items_at : List ℕ → Data → Option Items
items_at key d = option_map_or as_array (get key d) (Some no_items)

-- the integer of 64 bits without sign under this key
abbrev pub number_at : List ℕ → Data → Option ℕ
number_at key d = get key d >>= as_number >>= as_u64

-- turns are from 1
abbrev pub turn_in : Data → Option ℕ
turn_in d = number_at (codes "turn") d >>= where_it (nat_le 1)

-- the integer under this key, where it is below the limit
abbrev pub number_below : List ℕ → ℕ → Data → Option ℕ
number_below key limit d = number_at key d >>= where_it (λ n. nat_lt n limit)

-- {"turn":t,"partition":p,"node":i}
abbrev pub move_in : ℕ → ℕ → Data → Option Move
move_in partitions nodes d = guard (has_members 3 d)
    (turn_in d >>= λ turn. number_below (codes "partition") partitions d >>= λ partition. number_below (codes "node") nodes d >>= λ node.
    Some (record { turn = turn; partition = partition; node = node }))

-- {"turn":t,"node":i}
abbrev pub stop_in : ℕ → Data → Option Stop
stop_in nodes d = guard (has_members 2 d) (turn_in d >>= λ turn. number_below (codes "node") nodes d >>= λ node. Some (record { turn = turn; node = node }))

-- the lists of moves and of stops, of an object with no other member
abbrev pub lists_in : Data → Option (Items × Items)
lists_in d = guard (has_members (one_if (get (codes "moves") d) + one_if (get (codes "stops") d)) d)
    (items_at (codes "moves") d >>= λ moves. items_at (codes "stops") d >>= λ stops. Some (moves, stops))
