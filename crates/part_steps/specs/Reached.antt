-- What a message makes of a partition whose receiver takes it.
use Rattle.std.specs.Prelude.{ℕ, List, Bool, false, ◌&&◌, nat_le, Option, Some}
use Rattle.dura_value.specs.Ids.{Id, orchestration, entity, client}
use Rattle.dura_value.specs.Messages.{Body}
use Rattle.flow_syntax.specs.Syntax.{Flows}
use Rattle.flow_syntax.specs.Entity.{Delivered}
use Rattle.dura_model.specs.Deliveries.{to_instance}
use Rattle.dura_model.specs.Partition.{Row, Partition, instance_at, event_of, stands_in, entity_after, client_received}
use Rattle.part_rows.specs.Open.{lets_in, last_at}
use Rattle.part_rows.specs.Reactions.{delivered}

-- whether a receiver takes what a sender sends it at this stamp, which isn't before its last
abbrev pub takes_at : Partition → (from to : Id) → ℕ → Bool
takes_at p from to stamp = lets_in p.entities from to && nat_le (last_at p to) stamp

-- a message reaches an instance
abbrev pub instance_reached : Flows → ℕ → Partition → (from to : Id) → ℕ → Body → Partition
instance_reached flows count p from to stamp body =
    stands_in count p to stamp (event_of flows (instance_at flows p to) from to body) (to_instance flows (instance_at flows p to) from to stamp body)

-- what a message makes of an entity of a class at this stamp
abbrev pub delivered_at : Flows → Partition → (class : List ℕ) → (from to : Id) → ℕ → Body → Delivered
delivered_at flows p class from to stamp body = delivered flows class (p.entities to) from to stamp body

-- a message reaches an entity of a class
abbrev pub entity_reached : Flows → ℕ → Partition → (class : List ℕ) → (from to : Id) → ℕ → Body → Partition
entity_reached flows count p class from to stamp body = entity_after count p to (delivered_at flows p class from to stamp body)

abbrev pub reached : Flows → ℕ → Partition → (from to : Id) → ℕ → Body → Partition
reached flows count p from (orchestration flow key) stamp body = instance_reached flows count p from (orchestration flow key) stamp body
reached flows count p from (entity class key) stamp body = entity_reached flows count p class from (entity class key) stamp body
reached flows count p from (client name) stamp body = client_received p (client name) body

-- whether a timer is pending and due at this stamp, and its instance's last stamp isn't later
abbrev pub fires_at : Option Row → Option ℕ → ℕ → Bool
fires_at (Some row) (Some due) stamp = nat_le due stamp && nat_le row.stamp stamp
fires_at row timer stamp = false
