-- Which messages their receivers take.
use Rattle.std.specs.Prelude.{◌≡◌, ℕ, Bool, true, false, Option, Some, None}
use Rattle.std.specs.List.{find}
use Rattle.dura_value.specs.Ids.{Id, orchestration, entity, client}
use Rattle.dura_value.specs.Messages.{Body, Message}
use Rattle.flow_syntax.specs.Entity.{Entity, takes}
use Rattle.dura_model.specs.Partition.{Partition, first_in, last_in}

-- an entity that isn't there yet is held by nobody
abbrev pub takes_from : Option Entity → Id → Bool
takes_from None from = true
takes_from (Some e) from = takes e.holder from

-- whether a receiver takes what a sender sends it: an entity that is held takes only what its holder sends
abbrev pub lets_in : (Id → Option Entity) → (from to : Id) → Bool
lets_in entities from (entity class key) = takes_from (entities (entity class key)) from
lets_in entities from (orchestration flow key) = true
lets_in entities from (client name) = true

-- the message that has waited longest of those that their receivers take
abbrev pub oldest_open : Partition → Option Message
oldest_open p = find (λ m. lets_in p.entities m.from m.to) p.queue

abbrev pub last_of_entity : Option Entity → ℕ
last_of_entity None = 0
last_of_entity (Some e) = e.last

-- the last stamp of an instance or an entity, and 0 where it isn't there
abbrev pub last_at : Partition → Id → ℕ
last_at p (orchestration flow key) = last_in (p.instances (orchestration flow key))
last_at p (entity class key) = last_of_entity (p.entities (entity class key))
last_at p (client name) = 0

-- There is a first message of this link, and its receiver takes it.
pub record IsOpen (p : Partition) (from to : Id) : Type 0 where
  pub body : Body
  pub first : first_in p.queue from to ≡ Some body
  pub taken : lets_in p.entities from to ≡ true

-- no receiver takes the first message of any link to it
abbrev pub NoneOpen : Partition → Type 0
NoneOpen p = (from to : Id) (body : Body) → first_in p.queue from to ≡ Some body → lets_in p.entities from to ≡ false
