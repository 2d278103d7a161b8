-- The steps of the failure-free machine.
use Rattle.std.specs.Prelude.{ℕ, ◌==◌, ◌&&◌, ◌^◌, List, [], ◌∷◌, ◌++◌, Bool, true, false, nat_le, nat_lt, if◌then◌else◌, Option, Some, None}
use Rattle.activity_table.specs.Table.{may}
use Rattle.dura_value.specs.declared.outcome.Outcome.{Outcome}
use Rattle.dura_value.specs.declared.outcome.Outcome.TheVariants as outcomes
use Rattle.dura_value.specs.Ids.{Id, orchestration, entity, client, id_eq}
use Rattle.dura_value.specs.Messages.{to_request, Answer, is_done, has_failed, Body, start, raise, query, wait, result, Message}
use Rattle.flow_syntax.specs.Syntax.{Flows, class_of}
use Rattle.flow_syntax.specs.Machine.{Asked, an_activity, a_timer, resulted, fired}
use Rattle.flow_syntax.specs.Entity.{Entity, takes, initial, deliver as deliver_to, Delivered}
use Rattle.dura_model.specs.World.{World, Orchestration, Activity, at_link}
use Rattle.dura_value.specs.ById.{at_id, at_number, cleared}
use Rattle.dura_model.specs.Deliveries.{Effect, to_instance, goes_on_from}

-- A request of a client is taken; the first message of a link is delivered at this stamp; a pending activity finishes; a
-- pending timer fires at this stamp.
pub data Label : Type 0 where
  take : (client : Id) → (number : ℕ) → (message : Message) → Label
  deliver : (from to : Id) → (stamp : ℕ) → Label
  finish : (id : Id) → (task : ℕ) → (outcome : Outcome) → Label
  fire : (id : Id) → (task stamp : ℕ) → Label

-- messages join the ends of their links
abbrev pub sent : World → List Message → World
sent w [] = w
sent w (message ∷ messages) = sent (record w { links = at_link w.links message.from message.to (w.links message.from message.to ++ message ∷ []) }) messages

-- what an instance asks for is pending
abbrev pub asked : World → Id → List Asked → World
asked w id [] = w
asked w id (an_activity task name argument ∷ more) = asked (record w { activities = at_number w.activities id task (Some (record { name = name; argument = argument })) }) id more
asked w id (a_timer task due ∷ more) = asked (record w { timers = at_number w.timers id task (Some due) }) id more

-- an instance that has ended gives up what is pending
abbrev pub given_up : World → Id → Bool → World
given_up w id false = w
given_up w id true = record w { activities = cleared w.activities id; timers = cleared w.timers id }

-- an instance stands as a delivery or an event made it
abbrev pub stands_as : World → Id → Effect → World
stands_as w id o = sent (asked (given_up (record w { orchestrations = at_id w.orchestrations id o.instance }) id o.gives_up) id o.asked) o.sent

-- ---- requests

-- the number of a request
abbrev pub number_in : Body → ℕ
number_in (start argument (to_request number)) = number
number_in (raise event value number) = number
number_in (query number) = number
number_in (wait number) = number
number_in other = 0

abbrev pub is_instance : Id → Bool
is_instance (orchestration flow key) = true
is_instance other = false

abbrev pub is_client : Id → Bool
is_client (client name) = true
is_client other = false

-- what clients send, and to whom: a start, a wait and an event to an instance, a query to an instance or an entity
abbrev pub is_asking : Body → Id → Bool
is_asking (start argument (to_request number)) to = is_instance to
is_asking (raise event value number) to = is_instance to
is_asking (wait number) to = is_instance to
is_asking (query number) (orchestration flow key) = true
is_asking (query number) (entity class key) = true
is_asking other to = false

-- the numbers of requests
abbrev pub is_number : ℕ → Bool
is_number number = nat_le 1 number && nat_lt number (2 ^ 32)

-- whether a message is a request of this client with this number
abbrev pub is_request : Id → ℕ → Message → Bool
is_request who number message =
    is_client who && (id_eq message.from who && (is_asking message.body message.to && (number_in message.body == number && is_number number)))

-- a request is taken once
abbrev pub taken : World → Id → ℕ → Message → Option Message → Option World
taken w who number message None = Some (sent (record w { taken = at_number w.taken who number (Some message) }) (message ∷ []))
taken w who number message (Some other) = None

-- ---- deliveries

-- no delivery is before the last one
abbrev pub last_of : Option Orchestration → ℕ
last_of None = 0
last_of (Some o) = o.machine.last

-- an entity as it is, or as its class begins
abbrev pub entity_of : Flows → (class : List ℕ) → Option Entity → Entity
entity_of flows class None = record { value = initial (class_of flows class); holder = None; last = 0 }
entity_of flows class (Some e) = e

abbrev pub entity_stands : World → Id → Delivered → World
entity_stands w to d = sent (record w { entities = at_id w.entities to (Some d.entity) }) d.sent

abbrev pub to_entity : Flows → World → (class : List ℕ) → (from to : Id) → ℕ → Body → Entity → Option World
to_entity flows w class from to stamp body e =
    if takes e.holder from && nat_le e.last stamp then Some (entity_stands w to (deliver_to flows (record e { last = stamp }) class from to body)) else None

-- an answer to a request that was taken is recorded
abbrev pub answered : World → Id → ℕ → Answer → Option Message → World
answered w to number answer None = w
answered w to number answer (Some message) = record w { answers = at_number w.answers to number (Some answer) }

abbrev pub to_client : World → Id → Body → World
to_client w to (result (to_request number) answer) = answered w to number answer (w.taken to number)
to_client w to other = w

-- a message is delivered to an instance, an entity or a client
abbrev pub received : Flows → World → (from to : Id) → ℕ → Body → Option World
received flows w from (orchestration flow key) stamp body =
    let to = orchestration flow key in
    if nat_le (last_of (w.orchestrations to)) stamp then Some (stands_as w to (to_instance flows (w.orchestrations to) from to stamp body)) else None
received flows w from (entity class key) stamp body = to_entity flows w class from (entity class key) stamp body (entity_of flows class (w.entities (entity class key)))
received flows w from (client name) stamp body = Some (to_client w (client name) body)

-- the first message of a link leaves it
abbrev pub delivered : Flows → World → (from to : Id) → ℕ → List Message → Option World
delivered flows w from to stamp [] = None
delivered flows w from to stamp (message ∷ rest) = received flows (record w { links = at_link w.links from to rest }) from to stamp message.body

-- ---- activities and timers

abbrev pub answer_of : Outcome → Answer
answer_of (outcomes.Done value) = is_done value
answer_of (outcomes.Failed text) = has_failed text

-- a pending activity is over, with an outcome that it may give, which reaches the instance at its last stamp
abbrev pub finished : World → Id → ℕ → Outcome → Option Orchestration → Option Activity → Option World
finished w id task outcome (Some o) (Some activity) =
    if may activity.name activity.argument outcome
    then Some (stands_as (record w { activities = at_number w.activities id task None }) id (goes_on_from o (resulted task (answer_of outcome)) o.machine.last []))
    else None
finished w id task outcome o activity = None

-- a pending timer is over, not before it is due nor before the instance's last stamp
abbrev pub timed : World → Id → ℕ → ℕ → Option Orchestration → Option ℕ → Option World
timed w id task stamp (Some o) (Some due) =
    if nat_le due stamp && nat_le o.machine.last stamp
    then Some (stands_as (record w { timers = at_number w.timers id task None }) id (goes_on_from o (fired task) stamp []))
    else None
timed w id task stamp o timer = None

-- What a label makes of the world. There is nothing where it has no step.
abbrev pub step : Flows → World → Label → Option World
step flows w (take who number message) = if is_request who number message then taken w who number message (w.taken who number) else None
step flows w (deliver from to stamp) = delivered flows w from to stamp (w.links from to)
step flows w (finish id task outcome) = finished w id task outcome (w.orchestrations id) (w.activities id task)
step flows w (fire id task stamp) = timed w id task stamp (w.orchestrations id) (w.timers id task)
