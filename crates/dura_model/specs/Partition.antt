-- The state of one partition, what an item makes of it, and the world that the states of all partitions show.
use Rattle.std.specs.Prelude.{ℕ, ◌+◌, ◌-◌, ◌==◌, ◌&&◌, List, [], ◌∷◌, ◌++◌, length, drop, map, Bool, true, false, not, nat_le, nat_lt, if◌then◌else◌, Option, Some, None, option_map}
use Rattle.dura_value.specs.declared.outcome.Outcome.{Outcome}
use Rattle.dura_value.specs.Ids.{Id, orchestration, entity, client, id_eq, home}
use Rattle.dura_value.specs.Items.{Identity, Item, took, got, ran, ended, fired, trim, Posted}
use Rattle.log_items.specs.Streams.{Outbox, with_posted, with_first}
use Rattle.dura_value.specs.Messages.{to_task, to_request, Answer, Body, start, raise, result, granted, Message}
use Rattle.flow_syntax.specs.Syntax.{Flows}
use Rattle.flow_syntax.specs.Machine.{new_machine, Event, started, resulted, was_raised, was_granted, Past, replayed, Asked, an_activity, a_timer, fired as timer_fired}
use Rattle.flow_syntax.specs.Entity.{Entity, Delivered, takes, deliver as deliver_to}
use Rattle.dura_model.specs.World.{World, Orchestration, Activity}
use Rattle.dura_value.specs.ById.{at_id, at_number, cleared}
use Rattle.dura_model.specs.Deliveries.{Effect, to_instance, goes_on_from, flow_of, is_over}
use Rattle.dura_model.specs.Steps.{Label, take, deliver, finish, fire, is_request, number_in, entity_of, answer_of}

-- ---- the state

-- an instance as it is kept: its last stamp, its history, and the clients that wait for its end
pub record Row : Type 0 where
  pub stamp : ℕ
  pub history : List Past
  pub waiting : List (Id × ℕ)

-- how far the stream from another partition was taken in: the number of the next message, and the entry that took the last
pub record Inbox : Type 0 where
  pub next : ℕ
  pub reader : Identity

-- All that a partition knows: who it is, the position of its next entry, its incarnation and its greatest stamp; the requests taken
-- from its clients and their answers; its instances and entities; their activities and timers that are pending; the
-- messages to receivers here, in order; and the streams from and to other partitions.
pub record Partition : Type 0 where
  pub number : ℕ
  pub position : ℕ
  pub incarnation : ℕ
  pub stamp : ℕ
  pub taken : Id → ℕ → Option Message
  pub answers : Id → ℕ → Option Answer
  pub instances : Id → Option Row
  pub entities : Id → Option Entity
  pub activities : Id → ℕ → Option Activity
  pub timers : Id → ℕ → Option ℕ
  pub queue : List Message
  pub inboxes : ℕ → Inbox
  pub outboxes : ℕ → Outbox

abbrev pub nobody : Identity
nobody = record { partition = 0; incarnation = 0; position = 0 }

-- a partition where nothing happened
abbrev pub fresh : ℕ → Partition
fresh number = record {
  number = number;
  position = 0;
  incarnation = 0;
  stamp = 0;
  taken = λ id n. None;
  answers = λ id n. None;
  instances = λ id. None;
  entities = λ id. None;
  activities = λ id task. None;
  timers = λ id task. None;
  queue = [];
  inboxes = λ source. record { next = 0; reader = nobody };
  outboxes = λ target. record { first = 0; messages = [] };
}

-- the entry that its items belong to: it has begun, so the position of the next one is behind it
abbrev pub entry_of : Partition → Identity
entry_of p = record { partition = p.number; incarnation = p.incarnation; position = p.position - 1 }

-- an entry of this incarnation begins
abbrev pub enter : ℕ → Partition → Partition
enter incarnation p = record p { incarnation = incarnation; position = p.position + 1 }

-- ---- instances

-- the instance that a row stands for
abbrev pub instance_in : Flows → Id → Row → Orchestration
instance_in flows id row = record { machine = record (replayed (new_machine id (flow_of flows id)) row.history) { last = row.stamp }; waiting = row.waiting }

abbrev pub instance_at : Flows → Partition → Id → Option Orchestration
instance_at flows p id = option_map (instance_in flows id) (p.instances id)

-- the event of a start where the flow is there
abbrev pub start_event : {X : Type 0} → Option X → Event → Option Event
start_event None event = None
start_event (Some body) event = Some event

-- an event, unless the instance has ended
abbrev pub if_running : Bool → Event → Option Event
if_running true event = None
if_running false event = Some event

-- the event of its history that a message is to an instance, if it is one
abbrev pub event_of : Flows → Option Orchestration → (from to : Id) → Body → Option Event
event_of flows None from to (start argument reply) = start_event (flow_of flows to) (started from argument reply)
event_of flows None from to other = None
event_of flows (Some o) from to (raise event value number) = if_running (is_over o.machine.progress) (was_raised event value)
event_of flows (Some o) from to (result (to_task task) answer) = if_running (is_over o.machine.progress) (resulted task answer)
event_of flows (Some o) from to (granted task) = Some (was_granted task)
event_of flows (Some o) from to other = None

abbrev pub history_of : Option Row → List Past
history_of None = []
history_of (Some row) = row.history

abbrev pub with_event : List Past → ℕ → Option Event → List Past
with_event history stamp None = history
with_event history stamp (Some event) = history ++ record { event = event; stamp = stamp } ∷ []

-- the row of an instance after a delivery or an event at this stamp
abbrev pub row_after : Option Row → ℕ → Option Event → Orchestration → Row
row_after row stamp event o = record { stamp = stamp; history = with_event (history_of row) stamp event; waiting = o.waiting }

-- ---- what is sent

-- a message joins the queue here, or the stream to its receiver's partition
abbrev pub post : ℕ → Partition → Message → Partition
post count p message =
    if home count message.to == p.number
    then record p { queue = p.queue ++ message ∷ [] }
    else record p { outboxes = with_posted p.outboxes (home count message.to) (record { entry = entry_of p; message = message }) }

abbrev pub post_all : ℕ → Partition → List Message → Partition
post_all count p [] = p
post_all count p (message ∷ messages) = post_all count (post count p message) messages

abbrev pub asked_in : Partition → Id → List Asked → Partition
asked_in p id [] = p
asked_in p id (an_activity task name argument ∷ more) = asked_in (record p { activities = at_number p.activities id task (Some (record { name = name; argument = argument })) }) id more
asked_in p id (a_timer task due ∷ more) = asked_in (record p { timers = at_number p.timers id task (Some due) }) id more

abbrev pub given_up_in : Partition → Id → Bool → Partition
given_up_in p id false = p
given_up_in p id true = record p { activities = cleared p.activities id; timers = cleared p.timers id }

-- an instance stands as a delivery or an event made it
abbrev pub stands_in : ℕ → Partition → Id → ℕ → Option Event → Effect → Partition
stands_in count p id stamp event e =
    post_all count (asked_in (given_up_in (record p { instances = at_id p.instances id (option_map (row_after (p.instances id) stamp event) e.instance) }) id e.gives_up) id e.asked) e.sent

-- ---- items

-- the greatest stamp is no less than this
abbrev pub raised_to : ℕ → Partition → Partition
raised_to stamp p = record p { stamp = if nat_le p.stamp stamp then stamp else p.stamp }

-- the first message of a link in the queue
abbrev pub first_in : List Message → (from to : Id) → Option Body
first_in [] from to = None
first_in (message ∷ queue) from to = if id_eq from message.from && id_eq to message.to then Some message.body else first_in queue from to

abbrev pub without_first : List Message → (from to : Id) → List Message
without_first [] from to = []
without_first (message ∷ queue) from to = if id_eq from message.from && id_eq to message.to then queue else message ∷ without_first queue from to

abbrev pub last_in : Option Row → ℕ
last_in None = 0
last_in (Some row) = row.stamp

abbrev pub answered_in : Partition → Id → ℕ → Answer → Option Message → Partition
answered_in p to number answer None = p
answered_in p to number answer (Some message) = record p { answers = at_number p.answers to number (Some answer) }

abbrev pub client_received : Partition → Id → Body → Partition
client_received p to (result (to_request number) answer) = answered_in p to number answer (p.taken to number)
client_received p to other = p

abbrev pub entity_after : ℕ → Partition → Id → Delivered → Partition
entity_after count p to d = post_all count (record p { entities = at_id p.entities to (Some d.entity) }) d.sent

abbrev pub entity_received : Flows → ℕ → Partition → (class : List ℕ) → (from to : Id) → ℕ → Body → Entity → Option Partition
entity_received flows count p class from to stamp body e =
    if takes e.holder from && nat_le e.last stamp then Some (entity_after count p to (deliver_to flows (record e { last = stamp }) class from to body)) else None

abbrev pub received_in : Flows → ℕ → Partition → (from to : Id) → ℕ → Body → Option Partition
received_in flows count p from (orchestration flow key) stamp body =
    let to = orchestration flow key in
    if nat_le (last_in (p.instances to)) stamp
    then Some (stands_in count p to stamp (event_of flows (instance_at flows p to) from to body) (to_instance flows (instance_at flows p to) from to stamp body))
    else None
received_in flows count p from (entity class key) stamp body = entity_received flows count p class from (entity class key) stamp body (entity_of flows class (p.entities (entity class key)))
received_in flows count p from (client name) stamp body = Some (client_received p (client name) body)

abbrev pub delivered_in : Flows → ℕ → Partition → (from to : Id) → ℕ → Option Body → Option Partition
delivered_in flows count p from to stamp None = None
delivered_in flows count p from to stamp (Some body) = received_in flows count (raised_to stamp (record p { queue = without_first p.queue from to })) from to stamp body

abbrev pub taken_in : ℕ → Partition → Message → Option Message → Option Partition
taken_in count p message None = Some (post count (record p { taken = at_number p.taken message.from (number_in message.body) (Some message) }) message)
taken_in count p message (Some other) = None

abbrev pub ended_in : Flows → ℕ → Partition → Id → ℕ → Outcome → Option Orchestration → Option Activity → Option Partition
ended_in flows count p id task outcome (Some o) (Some activity) =
    let event = resulted task (answer_of outcome) in
    Some (stands_in count (record p { activities = at_number p.activities id task None }) id o.machine.last (Some event) (goes_on_from o event o.machine.last []))
ended_in flows count p id task outcome o activity = None

abbrev pub fired_in : Flows → ℕ → Partition → Id → ℕ → ℕ → Option Orchestration → Option ℕ → Option Partition
fired_in flows count p id task stamp (Some o) (Some due) =
    if nat_le due stamp && nat_le o.machine.last stamp
    then Some (stands_in count (raised_to stamp (record p { timers = at_number p.timers id task None })) id stamp (Some (timer_fired task)) (goes_on_from o (timer_fired task) stamp []))
    else None
fired_in flows count p id task stamp o timer = None

abbrev pub with_inbox : (ℕ → Inbox) → ℕ → Inbox → ℕ → Inbox
with_inbox boxes source box other = if source == other then box else boxes other

-- the next message of a stream from another partition joins the queue
abbrev pub got_in : ℕ → Partition → Identity → ℕ → Message → Option Partition
got_in count p source number message =
    if not (source.partition == p.number) && (nat_lt source.partition count && (number == (p.inboxes source.partition).next && home count message.to == p.number))
    then Some (record p { queue = p.queue ++ message ∷ []; inboxes = with_inbox p.inboxes source.partition (record { next = number + 1; reader = entry_of p }) })
    else None

abbrev pub trim_in : ℕ → Partition → Identity → ℕ → Option Partition
trim_in count p reader number =
    if not (reader.partition == p.number) && (nat_lt reader.partition count && nat_le number ((p.outboxes reader.partition).first + length (p.outboxes reader.partition).messages))
    then Some (record p { outboxes = with_first p.outboxes reader.partition number })
    else None

-- What an item makes of a partition among so many. There is nothing where it isn't accepted. An outcome is taken whatever
-- it is.
abbrev pub accepted : Flows → ℕ → Partition → Item → Option Partition
accepted flows count p (took message) =
    if home count message.from == p.number && is_request message.from (number_in message.body) message
    then taken_in count p message (p.taken message.from (number_in message.body))
    else None
accepted flows count p (got source number message) = got_in count p source number message
accepted flows count p (ran from to stamp) = delivered_in flows count p from to stamp (first_in p.queue from to)
accepted flows count p (ended id task outcome) = ended_in flows count p id task outcome (instance_at flows p id) (p.activities id task)
accepted flows count p (fired id task stamp) = fired_in flows count p id task stamp (instance_at flows p id) (p.timers id task)
accepted flows count p (trim reader number) = trim_in count p reader number

-- the label of an item; what comes in from a stream or is let go is none
abbrev pub label_in : Item → Option Label
label_in (took message) = Some (take message.from (number_in message.body) message)
label_in (got source number message) = None
label_in (ran from to stamp) = Some (deliver from to stamp)
label_in (ended id task outcome) = Some (finish id task outcome)
label_in (fired id task stamp) = Some (fire id task stamp)
label_in (trim reader number) = None

-- ---- what partitions show

-- the messages of one link, of those in a queue
abbrev pub link_in : List Message → (from to : Id) → List Message
link_in [] from to = []
link_in (message ∷ queue) from to = if id_eq from message.from && id_eq to message.to then message ∷ link_in queue from to else link_in queue from to

abbrev pub messages_in : List Posted → List Message
messages_in = map (λ posted. posted.message)

-- what is under way from one partition to another: the queue there, then what the stream holds that wasn't taken in
abbrev pub under_way : (ℕ → Partition) → (from to : ℕ) → List Message
under_way parts from to =
    (parts to).queue ++ messages_in (drop (((parts to).inboxes from).next - ((parts from).outboxes to).first) ((parts from).outboxes to).messages)

-- the world that so many partitions show
abbrev pub shown : Flows → ℕ → (ℕ → Partition) → World
shown flows count parts = record {
  orchestrations = λ id. instance_at flows (parts (home count id)) id;
  entities = λ id. (parts (home count id)).entities id;
  links = λ from to. link_in (under_way parts (home count from) (home count to)) from to;
  activities = λ id task. (parts (home count id)).activities id task;
  timers = λ id task. (parts (home count id)).timers id task;
  taken = λ id number. (parts (home count id)).taken id number;
  answers = λ id number. (parts (home count id)).answers id number;
}

-- one of them in another state
abbrev pub with_part : (ℕ → Partition) → ℕ → Partition → ℕ → Partition
with_part parts p next other = if p == other then next else parts other
