-- Pending activities and timers are of instances that are there, before an item and after it.
use Rattle.std.proofs.Common.{◌≡◌, ◌==◌, ◌&&◌, ◌+◌, length, ℕ, Bool, true, false, cond, List, [], ◌∷◌, ◌++◌, Option, Some, None, refl, sym, ap, subst, ◌∙◌}
use Rattle.std.specs.Prelude.{option_map, nat_le, nat_lt, not, is_some}
use Rattle.dura_value.specs.declared.outcome.Outcome.{Outcome}
use Rattle.dura_value.specs.Ids.{Id, orchestration, entity, client, id_eq, home}
use Rattle.dura_value.specs.Items.{Item, took, got, ran, ended, fired, trim}
use Rattle.dura_value.specs.Messages.{Reply, to_nobody, to_task, to_request, Answer, Body, start, raise, query, wait, result, operate, lock, granted, release, Message, was_raised as is_raised}
use Rattle.flow_syntax.specs.Syntax.{Flows, Block}
use Rattle.flow_syntax.specs.Machine.{new_machine, Event, started, resulted, was_raised, was_granted, resume, Resumed, Asked, an_activity, a_timer, fired as timer_fired}
use Rattle.flow_syntax.specs.Entity.{takes, deliver as deliver_to}
use Rattle.dura_model.specs.World.{Orchestration, Activity}
use Rattle.dura_value.specs.ById.{at_id, at_number, cleared}
use Rattle.dura_model.specs.Deliveries.{Effect, ending, at_end, goes_on_from, telling, beginning, flow_of, begun, to_absent, is_over, waited, raised_at, result_at, granted_at, to_present, at_stamp, to_instance}
use Rattle.dura_model.specs.Steps.{is_request, number_in, entity_of, answer_of}
use Rattle.dura_model.specs.Partition.{Row, Partition, fresh, instance_in, instance_at, event_of, row_after, raised_to, first_in, without_first, last_in, answered_in, client_received, entity_after, received_in, delivered_in, taken_in, ended_in, fired_in, entry_of, with_inbox, post, post_all, asked_in, given_up_in, stands_in, accepted}
use Rattle.log_items.specs.Streams.{with_first, with_posted}
use Rattle.dura_model.specs.Placed.{AreOfInstances}
use Rattle.dura_value.proofs.Ids.{id_same, id_self}
use Rattle.dura_model.proofs.Basics.{passes, passed}
use Rattle.dura_value.proofs.Basics.{some_same}

-- what is kept by id and task is of instances
abbrev Of : {X : Type 0} → (Id → Option Row) → (Id → ℕ → Option X) → Type 0
Of {X} instances f = (id : Id) (task : ℕ) (x : X) → f id task ≡ Some x → is_some (instances id) ≡ true

-- ---- one place

put_of : {X : Type 0} (instances : Id → Option Row) (f : Id → ℕ → Option X) (id : Id) (task : ℕ) (x : X) → Of instances f → is_some (instances id) ≡ true → Of instances (at_number f id task (Some x))
put_of {X} instances f id task x of there other number y is = by (id_eq id other) refl (task == number) is
  where
    by : (here : Bool) → id_eq id other ≡ here → (same : Bool) → cond (here && same) (Some x) (f other number) ≡ Some y → is_some (instances other) ≡ true
    by true here same is = sym (ap (λ (i : Id). is_some (instances i)) (id_same id other here)) ∙ there
    by false here same is = of other number y is

taken_of : {X : Type 0} (instances : Id → Option Row) (f : Id → ℕ → Option X) (id : Id) (task : ℕ) → Of instances f → Of instances (at_number f id task None)
taken_of {X} instances f id task of other number y is = by (id_eq id other && task == number) is
  where
    by : (here : Bool) → cond here None (f other number) ≡ Some y → is_some (instances other) ≡ true
    by true is = absurd (cc is)
    by false is = of other number y is

cleared_of : {X : Type 0} (instances : Id → Option Row) (f : Id → ℕ → Option X) (id : Id) → Of instances f → Of instances (cleared f id)
cleared_of {X} instances f id of other number y is = by (id_eq id other) is
  where
    by : (here : Bool) → cond here None (f other number) ≡ Some y → is_some (instances other) ≡ true
    by true is = absurd (cc is)
    by false is = of other number y is

-- what was there is there where a row is put
row_of : {X : Type 0} (instances : Id → Option Row) (f : Id → ℕ → Option X) (id : Id) (row : Row) → Of instances f → Of (at_id instances id (Some row)) f
row_of {X} instances f id row of other number y is = by (id_eq id other)
  where
    by : (here : Bool) → is_some (cond here (Some row) (instances other)) ≡ true
    by true = refl
    by false = of other number y is

row_there : (instances : Id → Option Row) (id : Id) (row : Row) → is_some (at_id instances id (Some row) id) ≡ true
row_there instances id row = ap (λ (here : Bool). is_some (cond here (Some row) (instances id))) (id_self id)

-- ---- what becomes of an instance

true_false : {X : Type 0} → true ≡ false → X
true_false is = absurd (cc is)

at_end_there : (r : Resumed) (waiting : List (Id × ℕ)) (before : List Message) (answer : Option Answer) → is_some (at_end r waiting before answer).instance ≡ true
at_end_there r waiting before None = refl
at_end_there r waiting before (Some answer) = refl

goes_on_there : (o : Orchestration) (event : Event) (stamp : ℕ) (before : List Message) → is_some (goes_on_from o event stamp before).instance ≡ true
goes_on_there o event stamp before = let r = resume o.machine event stamp in at_end_there r o.waiting before (ending r.machine.progress)

module _ (o : Orchestration) (from to : Id) (stamp : ℕ) where
  waited_there : (number : ℕ) (answer : Option Answer) → is_some (waited o.machine o.waiting from to number answer).instance ≡ true
  waited_there number None = refl
  waited_there number (Some answer) = refl

  raised_there : (event : List ℕ) (value : _) (number : ℕ) (over : Bool) → is_some (raised_at o from to stamp event value number over).instance ≡ true
  raised_there event value number true = refl
  raised_there event value number false = goes_on_there o (was_raised event value) stamp (telling to from number is_raised)

  result_there : (task : ℕ) (answer : Answer) (over : Bool) → is_some (result_at o stamp task answer over).instance ≡ true
  result_there task answer true = refl
  result_there task answer false = goes_on_there o (resulted task answer) stamp []

  granted_there : (task : ℕ) (over : Bool) → is_some (granted_at o stamp task over).instance ≡ true
  granted_there task true = refl
  granted_there task false = goes_on_there o (was_granted task) stamp []

  -- one that is there stays there
  present_there : (body : Body) → is_some (to_present o from to stamp body).instance ≡ true
  present_there (start argument reply) = refl
  present_there (query number) = refl
  present_there (wait number) = waited_there number (ending o.machine.progress)
  present_there (raise event value number) = raised_there event value number (is_over o.machine.progress)
  present_there (result (to_task task) answer) = result_there task answer (is_over o.machine.progress)
  present_there (result to_nobody answer) = refl
  present_there (result (to_request number) answer) = refl
  present_there (granted task) = granted_there task (is_over o.machine.progress)
  present_there (operate operation argument reply) = refl
  present_there (lock id task set index) = refl
  present_there release = refl

begun_asks : (from to : Id) (argument : _) (reply : Reply) (stamp : ℕ) (body : Option Block) → is_some (begun from to argument reply stamp body).instance ≡ false → (begun from to argument reply stamp body).asked ≡ []
begun_asks from to argument reply stamp None away = refl
begun_asks from to argument reply stamp (Some body) away = true_false (sym (goes_on_there (record { machine = new_machine to (Some body); waiting = [] }) (started from argument reply) stamp (beginning to from reply)) ∙ away)

-- one that isn't there, and doesn't begin, asks for nothing
absent_asks : (flows : Flows) (from to : Id) (stamp : ℕ) (body : Body) → is_some (to_absent flows from to stamp body).instance ≡ false → (to_absent flows from to stamp body).asked ≡ []
absent_asks flows from to stamp (start argument reply) away = begun_asks from to argument reply stamp (flow_of flows to) away
absent_asks flows from to stamp (query number) away = refl
absent_asks flows from to stamp (wait number) away = refl
absent_asks flows from to stamp (raise event value number) away = refl
absent_asks flows from to stamp (result reply answer) away = refl
absent_asks flows from to stamp (granted task) away = refl
absent_asks flows from to stamp (operate operation argument reply) away = refl
absent_asks flows from to stamp (lock id task set index) away = refl
absent_asks flows from to stamp release away = refl

-- where nothing is there afterwards, nothing was there before and nothing was asked for
abbrev Stays : Option Row → Effect → Type 0
Stays row e = is_some e.instance ≡ false → (is_some row ≡ false) × (e.asked ≡ [])

instance_stays : (flows : Flows) (row : Option Row) (from to : Id) (stamp : ℕ) (body : Body) → Stays row (to_instance flows (option_map (instance_in flows to) row) from to stamp body)
instance_stays flows None from to stamp body away = (refl, absent_asks flows from to stamp body away)
instance_stays flows (Some row) from to stamp body away = true_false (sym (present_there (at_stamp (instance_in flows to row) stamp) from to stamp body) ∙ away)

-- ---- states

pub placed_owned : (q : Partition) (id : Id) (stamp : ℕ) (event : Option Event) (o : Option Orchestration) → AreOfInstances q → (is_some o ≡ false → is_some (q.instances id) ≡ false)
    → AreOfInstances (record q { instances = at_id q.instances id (option_map (row_after (q.instances id) stamp event) o) })
placed_owned q id stamp event None owned away = record { pending = gone q.activities owned.pending; due = gone q.timers owned.due }
  where
    gone : {X : Type 0} (f : Id → ℕ → Option X) → Of q.instances f → Of (at_id q.instances id None) f
    gone {X} f of other number y is = by (id_eq id other) refl
      where
        by : (here : Bool) → id_eq id other ≡ here → is_some (cond here None (q.instances other)) ≡ true
        by true here = true_false (sym (of other number y is) ∙ sym (ap (λ (i : Id). is_some (q.instances i)) (id_same id other here)) ∙ away refl)
        by false here = of other number y is
placed_owned q id stamp event (Some o) owned away =
    let row = row_after (q.instances id) stamp event o in
    record { pending = row_of q.instances q.activities id row owned.pending; due = row_of q.instances q.timers id row owned.due }

given_up_owned : (q : Partition) (id : Id) (over : Bool) → AreOfInstances q → AreOfInstances (given_up_in q id over)
given_up_owned q id false owned = owned
given_up_owned q id true owned = record { pending = cleared_of q.instances q.activities id owned.pending; due = cleared_of q.instances q.timers id owned.due }

given_up_there : (q : Partition) (id : Id) (over : Bool) → is_some (q.instances id) ≡ true → is_some ((given_up_in q id over).instances id) ≡ true
given_up_there q id false there = there
given_up_there q id true there = there

asked_owned : (q : Partition) (id : Id) (list : List Asked) → AreOfInstances q → is_some (q.instances id) ≡ true → AreOfInstances (asked_in q id list)
asked_owned q id [] owned there = owned
asked_owned q id (an_activity task name argument ∷ more) owned there =
    let one : Activity = record { name = name; argument = argument } in
    asked_owned (record q { activities = at_number q.activities id task (Some one) }) id more (record { pending = put_of q.instances q.activities id task one owned.pending there; due = owned.due }) there
asked_owned q id (a_timer task due ∷ more) owned there =
    asked_owned (record q { timers = at_number q.timers id task (Some due) }) id more (record { pending = owned.pending; due = put_of q.instances q.timers id task due owned.due there }) there

post_owned : (count : ℕ) (q : Partition) (message : Message) → AreOfInstances q → AreOfInstances (post count q message)
post_owned count q message owned = by (home count message.to == q.number)
  where
    by : (here : Bool) → AreOfInstances (cond here (record q { queue = q.queue ++ message ∷ [] }) (record q { outboxes = with_posted q.outboxes (home count message.to) (record { entry = entry_of q; message = message }) }))
    by true = record { pending = owned.pending; due = owned.due }
    by false = record { pending = owned.pending; due = owned.due }

post_all_owned : (count : ℕ) (q : Partition) (messages : List Message) → AreOfInstances q → AreOfInstances (post_all count q messages)
post_all_owned count q [] owned = owned
post_all_owned count q (message ∷ messages) owned = post_all_owned count (post count q message) messages (post_owned count q message owned)

stands_owned : (count : ℕ) (q : Partition) (id : Id) (stamp : ℕ) (event : Option Event) (e : Effect) → AreOfInstances q → Stays (q.instances id) e → AreOfInstances (stands_in count q id stamp event e)
stands_owned count q id stamp event e owned stays = post_all_owned count (asked_in left id e.asked) e.sent (by e.instance refl)
  where
    placed : Option Orchestration → Partition
    placed o = record q { instances = at_id q.instances id (option_map (row_after (q.instances id) stamp event) o) }

    left : Partition
    left = given_up_in (placed e.instance) id e.gives_up

    placed_left : AreOfInstances left
    placed_left = given_up_owned (placed e.instance) id e.gives_up (placed_owned q id stamp event e.instance owned (λ away. (stays away).0))

    by : (o : Option Orchestration) → e.instance ≡ o → AreOfInstances (asked_in left id e.asked)
    by None is = subst (λ (list : List Asked). AreOfInstances (asked_in left id list)) (sym (stays (ap (λ (x : Option Orchestration). is_some x) is)).1) placed_left
    by (Some o) is =
        asked_owned left id e.asked placed_left
        (given_up_there (placed e.instance) id e.gives_up
        (subst (λ (x : Option Orchestration). is_some ((placed x).instances id) ≡ true) (sym is) (row_there q.instances id (row_after (q.instances id) stamp event o))))

-- ---- items

module _ (flows : Flows) (count : ℕ) where
  event_stays : (id : Id) (row : Row) (event : Event) (stamp : ℕ) → Stays (Some row) (goes_on_from (instance_in flows id row) event stamp [])
  event_stays id row event stamp away = true_false (sym (goes_on_there (instance_in flows id row) event stamp []) ∙ away)

  fired_owned : (q next : Partition) (id : Id) (task stamp : ℕ) (row : Option Row) (timer : Option ℕ) → q.instances id ≡ row → AreOfInstances q
      → fired_in flows count q id task stamp (option_map (instance_in flows id) row) timer ≡ Some next → AreOfInstances next
  fired_owned q next id task stamp None timer there owned is = absurd (cc is)
  fired_owned q next id task stamp (Some row) None there owned is = absurd (cc is)
  fired_owned q next id task stamp (Some row) (Some due) there owned is =
      let less : Partition = record q { timers = at_number q.timers id task None } in
      let e = goes_on_from (instance_in flows id row) (timer_fired task) stamp [] in
      let after = stands_in count (raised_to stamp less) id stamp (Some (timer_fired task)) e in
      subst AreOfInstances (passed (nat_le due stamp && nat_le row.stamp stamp) after next is).1
      (stands_owned count (raised_to stamp less) id stamp (Some (timer_fired task)) e
      (record { pending = owned.pending; due = taken_of q.instances q.timers id task owned.due })
      (subst (λ (r : Option Row). Stays r e) (sym there) (event_stays id row (timer_fired task) stamp)))

  ended_owned : (q next : Partition) (id : Id) (task : ℕ) (outcome : Outcome) (row : Option Row) (pending : Option Activity) → q.instances id ≡ row → AreOfInstances q
      → ended_in flows count q id task outcome (option_map (instance_in flows id) row) pending ≡ Some next → AreOfInstances next
  ended_owned q next id task outcome None pending there owned is = absurd (cc is)
  ended_owned q next id task outcome (Some row) None there owned is = absurd (cc is)
  ended_owned q next id task outcome (Some row) (Some activity) there owned is =
      let less : Partition = record q { activities = at_number q.activities id task None } in
      let event = resulted task (answer_of outcome) in
      let e = goes_on_from (instance_in flows id row) event row.stamp [] in
      subst AreOfInstances (some_same is)
      (stands_owned count less id row.stamp (Some event) e
      (record { pending = taken_of q.instances q.activities id task owned.pending; due = owned.due })
      (subst (λ (r : Option Row). Stays r e) (sym there) (event_stays id row event row.stamp)))

  answered_owned : (q : Partition) (to : Id) (number : ℕ) (answer : Answer) (request : Option Message) → AreOfInstances q → AreOfInstances (answered_in q to number answer request)
  answered_owned q to number answer None owned = owned
  answered_owned q to number answer (Some message) owned = record { pending = owned.pending; due = owned.due }

  client_owned : (q : Partition) (to : Id) (body : Body) → AreOfInstances q → AreOfInstances (client_received q to body)
  client_owned q to (result (to_request number) answer) owned = answered_owned q to number answer (q.taken to number) owned
  client_owned q to (result to_nobody answer) owned = owned
  client_owned q to (result (to_task task) answer) owned = owned
  client_owned q to (start argument reply) owned = owned
  client_owned q to (raise event value number) owned = owned
  client_owned q to (query number) owned = owned
  client_owned q to (wait number) owned = owned
  client_owned q to (operate operation argument reply) owned = owned
  client_owned q to (lock id task set index) owned = owned
  client_owned q to (granted task) owned = owned
  client_owned q to release owned = owned

  received_owned : (q next : Partition) (from to : Id) (stamp : ℕ) (body : Body) → AreOfInstances q → received_in flows count q from to stamp body ≡ Some next → AreOfInstances next
  received_owned q next from (orchestration flow key) stamp body owned is =
      let to = orchestration flow key in
      let e = to_instance flows (instance_at flows q to) from to stamp body in
      let event = event_of flows (instance_at flows q to) from to body in
      subst AreOfInstances (passed (nat_le (last_in (q.instances to)) stamp) (stands_in count q to stamp event e) next is).1
      (stands_owned count q to stamp event e owned (instance_stays flows (q.instances to) from to stamp body))
  received_owned q next from (entity class key) stamp body owned is =
      let to = entity class key in
      let e = entity_of flows class (q.entities to) in
      let d = deliver_to flows (record e { last = stamp }) class from to body in
      subst AreOfInstances (passed (takes e.holder from && nat_le e.last stamp) (entity_after count q to d) next is).1
      (post_all_owned count (record q { entities = at_id q.entities to (Some d.entity) }) d.sent (record { pending = owned.pending; due = owned.due }))
  received_owned q next from (client name) stamp body owned is = subst AreOfInstances (some_same is) (client_owned q (client name) body owned)

  delivered_owned : (q next : Partition) (from to : Id) (stamp : ℕ) (found : Option Body) → AreOfInstances q → delivered_in flows count q from to stamp found ≡ Some next → AreOfInstances next
  delivered_owned q next from to stamp None owned is = absurd (cc is)
  delivered_owned q next from to stamp (Some body) owned is =
      received_owned (raised_to stamp (record q { queue = without_first q.queue from to })) next from to stamp body (record { pending = owned.pending; due = owned.due }) is

  taken_owned : (q next : Partition) (message : Message) (before : Option Message) → AreOfInstances q → taken_in count q message before ≡ Some next → AreOfInstances next
  taken_owned q next message None owned is =
      subst AreOfInstances (some_same is)
      (post_owned count (record q { taken = at_number q.taken message.from (number_in message.body) (Some message) }) message (record { pending = owned.pending; due = owned.due }))
  taken_owned q next message (Some other) owned is = absurd (cc is)

  came_owned : (test : Bool) (after next : Partition) → AreOfInstances after → cond test (Some after) None ≡ Some next → AreOfInstances next
  came_owned test after next owned is = subst AreOfInstances (passed test after next is).1 owned

  -- so they are after any item that is accepted
  pub item_owned : (item : Item) (q next : Partition) → AreOfInstances q → accepted flows count q item ≡ Some next → AreOfInstances next
  item_owned (took message) q next owned is =
      let number = number_in message.body in
      let it = passes (home count message.from == q.number && is_request message.from number message) (taken_in count q message (q.taken message.from number)) next is in
      taken_owned q next message (q.taken message.from number) owned it.1
  item_owned (got source number message) q next owned is =
      came_owned (not (source.partition == q.number) && (nat_lt source.partition count && (number == (q.inboxes source.partition).next && home count message.to == q.number)))
      (record q { queue = q.queue ++ message ∷ []; inboxes = with_inbox q.inboxes source.partition (record { next = number + 1; reader = entry_of q }) }) next (record { pending = owned.pending; due = owned.due }) is
  item_owned (ran from to stamp) q next owned is = delivered_owned q next from to stamp (first_in q.queue from to) owned is
  item_owned (ended id task outcome) q next owned is = ended_owned q next id task outcome (q.instances id) (q.activities id task) refl owned is
  item_owned (fired id task stamp) q next owned is = fired_owned q next id task stamp (q.instances id) (q.timers id task) refl owned is
  item_owned (trim reader number) q next owned is =
      came_owned (not (reader.partition == q.number) && (nat_lt reader.partition count && nat_le number ((q.outboxes reader.partition).first + length (q.outboxes reader.partition).messages)))
      (record q { outboxes = with_first q.outboxes reader.partition number }) next (record { pending = owned.pending; due = owned.due }) is

-- so they are where nothing happened
pub fresh_owned : (number : ℕ) → AreOfInstances (fresh number)
fresh_owned number = record { pending = λ id task activity is. absurd (cc is); due = λ id task due is. absurd (cc is) }
