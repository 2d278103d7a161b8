-- One entity: what a message makes of it.
use Rattle.std.specs.Prelude.{ℕ, suc, List, [], ◌∷◌, codes, Bool, true, Option, Some, None, Result, Ok, Err}
use Rattle.dura_value.specs.declared.data.Value.{Value}
use Rattle.dura_value.specs.declared.data.Value.TheVariants as values
use Rattle.dura_value.specs.Ids.{Id, id_eq}
use Rattle.dura_value.specs.Messages.{Reply, to_nobody, to_request, Answer, is_done, has_failed, is_missing, is_value, Spot, entity_at, Body, query, result, operate, lock, granted, release, Message}
use Rattle.flow_syntax.specs.Syntax.{Block, Class, Flows, class_of, look_up}
use Rattle.flow_syntax.specs.Eval.{Variables, value_in}
use Rattle.flow_syntax.specs.Machine.{Machine, Progress, running, done, failed, new_machine, todo, go, most_steps}

-- an entity: its value, who holds it, and its last stamp
pub record Entity : Type 0 where
  pub value : Value
  pub holder : Option Id
  pub last : ℕ

-- An entity with a holder takes only what the holder sends.
abbrev pub takes : Option Id → Id → Bool
takes None sender = true
takes (Some holder) sender = id_eq holder sender

-- what its class begins with, or null
abbrev pub initial : Option Class → Value
initial None = values.Null
initial (Some class) = class.init

-- the entity afterwards, and the messages that it sent
pub record Delivered : Type 0 where
  pub entity : Entity
  pub sent : List Message

-- the message that answers a reply
abbrev pub answering : Id → Id → Reply → Answer → List Message
answering from to to_nobody answer = []
answering from to reply answer = record { from = from; to = to; body = result reply answer } ∷ []

-- the body of an operation, begun with the entity's value and the argument
abbrev pub body_begun : Id → Value → Value → Block → Machine
body_begun id value argument body =
    record (new_machine id None) { variables = (codes "self", value) ∷ (codes "arg", argument) ∷ []; rest = todo body; progress = running }

abbrev pub or_value : Result Value (List ℕ) → Value → Value
or_value (Ok value) was = value
or_value (Err fault) was = was

-- what the entity's value comes to: that of `self` at the end, and after a fault what it was
abbrev pub new_value : Value → Variables → Progress → Value
new_value was variables (done value) = or_value (value_in variables (codes "self")) was
new_value was variables other = was

-- the value that the body returned, or its fault
abbrev pub body_answer : Progress → Answer
body_answer (done value) = is_done value
body_answer (failed text) = has_failed text
body_answer other = has_failed []

-- an operation's body runs
abbrev pub operated : Entity → Id → Id → Value → Reply → Option Block → Delivered
operated e from to argument reply None = record { entity = e; sent = answering to from reply (has_failed (codes "unknown")) }
operated e from to argument reply (Some body) =
    let end = (go most_steps (body_begun to e.value argument body)).machine in
    record { entity = record e { value = new_value e.value end.variables end.progress }; sent = answering to from reply (body_answer end.progress) }

abbrev pub operation_of : Option Class → List ℕ → Option Block
operation_of None operation = None
operation_of (Some class) operation = look_up class.operations operation

abbrev pub value_answer : Option Class → Value → Answer
value_answer None value = is_missing
value_answer (Some class) value = is_value value

-- The lock goes on to the next entity of its set. Behind the last one the instance is told that it has all.
abbrev pub lock_goes_on : Id → Id → ℕ → List Spot → ℕ → Option Id → Message
lock_goes_on at id task set index (Some next) = record { from = at; to = next; body = lock id task set index }
lock_goes_on at id task set index None = record { from = at; to = id; body = granted task }

-- What a message makes of an entity that takes it. What it doesn't know is dropped.
abbrev pub deliver : Flows → Entity → (class : List ℕ) → (from to : Id) → Body → Delivered
deliver flows e class from to (operate operation argument reply) = operated e from to argument reply (operation_of (class_of flows class) operation)
deliver flows e class from to (query number) = record { entity = e; sent = answering to from (to_request number) (value_answer (class_of flows class) e.value) }
deliver flows e class from to (lock id task set index) =
    record { entity = record e { holder = Some id }; sent = lock_goes_on to id task set (suc index) (entity_at set (suc index)) ∷ [] }
deliver flows e class from to release = record { entity = record e { holder = None }; sent = [] }
deliver flows e class from to other = record { entity = e; sent = [] }
