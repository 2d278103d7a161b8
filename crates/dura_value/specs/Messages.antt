-- What instances, entities and clients say to one another.
use Rattle.std.specs.Prelude.{ℕ, ◌&&◌, ◌||◌, List, [], ◌∷◌, Bool, false, if◌then◌else◌, Option, Some, None, suc, zero}
use Rattle.std.specs.Str.{bytes_eq}
use Rattle.dura_value.specs.declared.data.Value.{Value}
use Rattle.dura_value.specs.Bytes.{bytes_before}
use Rattle.dura_value.specs.Ids.{Id, entity}

-- who is answered: nobody, the task of an instance with this number, or the client's request with this number
pub data Reply : Type 0 where
  to_nobody : Reply
  to_task : (number : ℕ) → Reply
  to_request : (number : ℕ) → Reply

-- done and failed are ends and results; the others answer clients
pub data Answer : Type 0 where
  is_done : (value : Value) → Answer
  has_failed : (text : List ℕ) → Answer
  was_started : Answer
  was_there : Answer
  is_unknown : Answer
  was_raised : Answer
  has_ended : Answer
  is_missing : Answer
  is_running : Answer
  is_value : (value : Value) → Answer

-- an entity by its class and key
pub record Spot : Type 0 where
  pub class : List ℕ
  pub key : List ℕ

abbrev pub at_spot : Spot → Id
at_spot spot = entity spot.class spot.key

-- the order of entities: by class, then by key
abbrev pub spot_before : Spot → Spot → Bool
spot_before a b = bytes_before a.class b.class || (bytes_eq a.class b.class && bytes_before a.key b.key)

abbrev pub spot_eq : Spot → Spot → Bool
spot_eq a b = bytes_eq a.class b.class && bytes_eq a.key b.key

-- whether an entity is one of these
abbrev pub is_among : Spot → List Spot → Bool
is_among spot [] = false
is_among spot (other ∷ set) = spot_eq spot other || is_among spot set

-- an entity is put into a set in order, unless it is there
abbrev pub inserted : Spot → List Spot → List Spot
inserted spot [] = spot ∷ []
inserted spot (first ∷ set) = if spot_before spot first then spot ∷ first ∷ set else (if spot_eq spot first then first ∷ set else first ∷ inserted spot set)

-- the set of these entities: each once, in order
abbrev pub set_of : List Spot → List Spot
set_of [] = []
set_of (spot ∷ spots) = inserted spot (set_of spots)

-- the entity at this place of a set
abbrev pub entity_at : List Spot → ℕ → Option Id
entity_at [] index = None
entity_at (spot ∷ set) zero = Some (at_spot spot)
entity_at (spot ∷ set) (suc index) = entity_at set index

-- start an instance with an argument; raise an event at it; ask how it or an entity stands; wait for its end; the answer
-- to a reply; an entity's operation; the lock of an instance's task, which goes through its set and is at this place; that
-- all of the set is locked; that the lock is given back
pub data Body : Type 0 where
  start : (argument : Value) → (reply : Reply) → Body
  raise : (event : List ℕ) → (value : Value) → (number : ℕ) → Body
  query : (number : ℕ) → Body
  wait : (number : ℕ) → Body
  result : (reply : Reply) → (answer : Answer) → Body
  operate : (operation : List ℕ) → (argument : Value) → (reply : Reply) → Body
  lock : (id : Id) → (task : ℕ) → (set : List Spot) → (index : ℕ) → Body
  granted : (task : ℕ) → Body
  release : Body

pub record Message : Type 0 where
  pub from : Id
  pub to : Id
  pub body : Body

-- the answer to a client's request
pub record Answered : Type 0 where
  pub client : Id
  pub number : ℕ
  pub answer : Answer

-- what a step makes for the outside: messages, and answers to requests of clients, each in the order in which they were made
pub record Outputs : Type 0 where
  pub sent : List Message
  pub answered : List Answered
