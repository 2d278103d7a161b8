-- Legal runs, and where they come to.
use Rattle.std.specs.Prelude.{◌≡◌, ◌&&◌, ◌||◌, ◌==◌, ℕ, ◌+◌, List, [], ◌∷◌, ◌++◌, Bool, true, false, not, is_some, if◌then◌else◌, Option, Some, None}
use Rattle.std.specs.List.{Contains}
use Rattle.std.specs.Option.{option_and_then}
use Rattle.dura_value.specs.Ids.{Id, id_eq}
use Rattle.dura_value.specs.Messages.{Spot, at_spot, lock, release, Message}
use Rattle.flow_syntax.specs.Syntax.{Flows}
use Rattle.flow_syntax.specs.Machine.{inside}
use Rattle.flow_syntax.specs.Entity.{Entity}
use Rattle.dura_model.specs.World.{World, Orchestration, empty}
use Rattle.dura_model.specs.Steps.{Label, deliver, finish, step, number_in}

-- where labels come to from a world, by one step after another
abbrev pub after_from : Flows → World → List Label → Option World
after_from flows w [] = Some w
after_from flows w (label ∷ run) = option_and_then (λ next. after_from flows next run) (step flows w label)

-- where a run comes to from the empty world
abbrev pub after : Flows → List Label → Option World
after flows run = after_from flows empty run

-- The run is legal, and this is the world after it: from the empty world on each label has a step.
abbrev pub Legal : Flows → List Label → World → Type 0
Legal flows run w = after flows run ≡ Some w

-- ---- quiet

-- whether a request was taken, and whether its answer came
abbrev pub is_taken : World → Message → Bool
is_taken w request = is_some (w.taken request.from (number_in request.body))

abbrev pub is_answered : World → Message → Bool
is_answered w request = is_some (w.answers request.from (number_in request.body))

-- whether each of a client's requests among these was taken and answered
abbrev pub may_ask : World → Id → List Message → Bool
may_ask w who [] = true
may_ask w who (request ∷ requests) = (not (id_eq request.from who) || is_taken w request && is_answered w request) && may_ask w who requests

-- a request behind these is due: it wasn't taken, and each of its client's in front was answered
abbrev pub is_due : World → List Message → Message → Bool
is_due w before request = not (is_taken w request) && may_ask w request.from before

-- the same where the one right before it is looked at alone: whether a client's requests were taken, and the last of them answered,
-- once so much is known of those in front
abbrev pub may_go_on : World → Id → (taken answered : Bool) → List Message → Bool
may_go_on w who taken answered [] = taken && answered
may_go_on w who taken answered (request ∷ requests) =
    if id_eq request.from who then may_go_on w who (taken && is_taken w request) (is_answered w request) requests else may_go_on w who taken answered requests

-- Those of these requests that were taken were taken in turn: each of its client's in front was answered.
abbrev pub TakenInTurn : World → List Message → Type 0
TakenInTurn w requests = (before : List Message) (request : Message) (behind : List Message) → requests ≡ before ++ request ∷ behind → is_taken w request ≡ true → may_ask w request.from before ≡ true

-- Nothing is left to do for these requests: no message can be delivered, nothing is pending, and no request is due.
pub record Quiet (flows : Flows) (requests : List Message) (w : World) : Type 0 where
  pub delivered : (from to : Id) (stamp : ℕ) → step flows w (deliver from to stamp) ≡ None
  pub finished : (id : Id) (task : ℕ) → w.activities id task ≡ None
  pub fired : (id : Id) (task : ℕ) → w.timers id task ≡ None
  pub asked : (before : List Message) (request : Message) (behind : List Message) → requests ≡ before ++ request ∷ behind → is_due w before request ≡ false

-- ---- tasks

-- whether the label ends this task
abbrev pub is_finish : Id → ℕ → Label → Bool
is_finish id task (finish other number outcome) = id_eq id other && task == number
is_finish id task label = false

-- how often a task is ended in a run
abbrev pub finishes : Id → ℕ → List Label → ℕ
finishes id task [] = 0
finishes id task (label ∷ run) = (if is_finish id task label then 1 else 0) + finishes id task run

-- ---- sections

-- an instance is inside a section with this entity
pub record Inside (w : World) (id : Id) (spot : Spot) : Type 0 where
  pub instance : Orchestration
  pub there : w.orchestrations id ≡ Some instance
  pub set : List Spot
  pub section : instance.machine.section ≡ inside set
  pub held : Contains set spot

-- Two instances are inside sections that share an entity.
pub record Overlap (w : World) : Type 0 where
  pub one : Id
  pub other : Id
  pub apart : id_eq one other ≡ false
  pub shared : Spot
  pub first : Inside w one shared
  pub second : Inside w other shared

abbrev pub holder_of : Option Entity → Option Id
holder_of None = None
holder_of (Some e) = e.holder

-- A release of the instance is under way to the entity.
pub record Releases (w : World) (id : Id) (spot : Spot) : Type 0 where
  pub message : Message
  pub stands : Contains (w.links id (at_spot spot)) message
  pub is : message.body ≡ release

-- The instance waits for the entity: its lock is under way to it.
pub record Waits (w : World) (id : Id) (spot : Spot) : Type 0 where
  pub from : Id
  pub task : ℕ
  pub set : List Spot
  pub index : ℕ
  pub message : Message
  pub stands : Contains (w.links from (at_spot spot)) message
  pub is : message.body ≡ lock id task set index

-- The instance holds the entity: the entity names it, and no release of it is under way to there.
pub record Holds (w : World) (id : Id) (spot : Spot) : Type 0 where
  pub named : holder_of (w.entities (at_spot spot)) ≡ Some id
  pub kept : Releases w id spot → ⊥

-- the first waits for an entity that the second holds, and so on from one to the next
pub data Blocks (w : World) : Id → Id → Type 0 where
  one : {id holder : Id} (spot : Spot) → Waits w id spot → Holds w holder spot → Blocks w id holder
  more : {id holder last : Id} (spot : Spot) → Waits w id spot → Holds w holder spot → Blocks w holder last → Blocks w id last
