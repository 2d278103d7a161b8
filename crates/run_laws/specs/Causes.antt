-- Why an entity has a holder.
use Rattle.std.specs.Prelude.{◌≡◌, ℕ, ◌<◌, List, Some}
use Rattle.std.specs.List.{Contains}
use Rattle.dura_value.specs.Ids.{Id}
use Rattle.dura_value.specs.Messages.{Spot, at_spot, entity_at, lock, granted, Message}
use Rattle.flow_syntax.specs.Machine.{acquiring, running}
use Rattle.dura_model.specs.World.{World, Orchestration}
use Rattle.dura_model.specs.Legal.{Inside, Releases}

-- The instance runs, inside a section with this entity.
pub record RunsInside (w : World) (id : Id) (spot : Spot) : Type 0 where
  pub inside : Inside w id spot
  pub runs : inside.instance.machine.progress ≡ running

-- The instance waits for a set, which its lock goes through, and the entity is one of those before the lock's place.
pub record Acquires (w : World) (id : Id) (spot : Spot) : Type 0 where
  pub instance : Orchestration
  pub there : w.orchestrations id ≡ Some instance
  pub task : ℕ
  pub set : List Spot
  pub section : instance.machine.section ≡ acquiring task set
  pub index : ℕ
  pub from : Id
  pub to : Id
  pub message : Message
  pub stands : Contains (w.links from to) message
  pub is : message.body ≡ lock id task set index
  pub place : ℕ
  pub before : place < index
  pub has : entity_at set place ≡ Some (at_spot spot)

-- The instance waits for a set that has the entity, and the set's grant is under way to it.
pub record IsGranted (w : World) (id : Id) (spot : Spot) : Type 0 where
  pub instance : Orchestration
  pub there : w.orchestrations id ≡ Some instance
  pub task : ℕ
  pub set : List Spot
  pub section : instance.machine.section ≡ acquiring task set
  pub from : Id
  pub message : Message
  pub stands : Contains (w.links from id) message
  pub is : message.body ≡ granted task
  pub has : Contains set spot

-- what an instance does that an entity names as its holder
pub data Because (w : World) (id : Id) (spot : Spot) : Type 0 where
  is_inside : RunsInside w id spot → Because w id spot
  is_acquiring : Acquires w id spot → Because w id spot
  is_granted : IsGranted w id spot → Because w id spot
  is_leaving : Releases w id spot → Because w id spot
