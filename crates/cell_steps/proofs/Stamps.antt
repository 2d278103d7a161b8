-- How far the greatest stamp of a state goes.
use Rattle.std.proofs.Common.{◌≡◌, ◌&&◌, ℕ, Bool, true, false, List, [], ◌∷◌, ◌++◌, cond, Option, Some, None, refl, sym, ◌∙◌, ap, arith}
use Rattle.std.specs.Prelude.{not, nat_le, nat_lt, max, length, ◌==◌, ◌+◌, option_map}
use Rattle.dura_model.specs.Deliveries.{Effect, to_instance, goes_on_from}
use Rattle.dura_model.specs.Steps.{is_request, number_in, entity_of, answer_of}
use Rattle.dura_model.specs.Partition.{Partition, post, post_all, asked_in, given_up_in, stands_in, raised_to, answered_in, client_received, received_in, delivered_in, taken_in, ended_in, fired_in, accepted, first_in, without_first, last_in, row_after, event_of, with_inbox, entry_of, instance_at}
use Rattle.log_items.specs.Streams.{with_posted, with_first}
use Rattle.dura_model.specs.World.{Activity, Orchestration}
use Rattle.dura_value.specs.ById.{at_id, at_number}
use Rattle.dura_value.specs.Ids.{Id, orchestration, entity, client, home}
use Rattle.dura_value.specs.Items.{Item, took, got, ran, ended, fired, trim}
use Rattle.dura_value.specs.Messages.{to_nobody, to_task, to_request, Answer, Body, start, raise, query, wait, result, operate, lock, granted, release, Message}
use Rattle.dura_value.specs.declared.outcome.Outcome.{Outcome}
use Rattle.flow_syntax.specs.Entity.{Entity, Delivered, takes, deliver as deliver_to}
use Rattle.flow_syntax.specs.Machine.{Event, Asked, an_activity, a_timer, resulted, fired as timer_fired}
use Rattle.flow_syntax.specs.Syntax.{Flows}

-- ---- what keeps it

of_either : (b : Bool) (x y : Partition) (stamp : ℕ) → x.stamp ≡ stamp → y.stamp ≡ stamp → (cond b x y).stamp ≡ stamp
of_either true x y stamp one other = one
of_either false x y stamp one other = other

post_keeps : (count : ℕ) (p : Partition) (message : Message) → (post count p message).stamp ≡ p.stamp
post_keeps count p message =
    of_either (home count message.to == p.number) (record p { queue = p.queue ++ message ∷ [] })
    (record p { outboxes = with_posted p.outboxes (home count message.to) (record { entry = entry_of p; message = message }) }) p.stamp refl refl

post_all_keeps : (count : ℕ) (p : Partition) (messages : List Message) → (post_all count p messages).stamp ≡ p.stamp
post_all_keeps count p [] = refl
post_all_keeps count p (message ∷ messages) = post_all_keeps count (post count p message) messages ∙ post_keeps count p message

asked_keeps : (p : Partition) (id : Id) (asks : List Asked) → (asked_in p id asks).stamp ≡ p.stamp
asked_keeps p id [] = refl
asked_keeps p id (an_activity task name argument ∷ more) = asked_keeps (record p { activities = at_number p.activities id task (Some (record { name = name; argument = argument })) }) id more
asked_keeps p id (a_timer task due ∷ more) = asked_keeps (record p { timers = at_number p.timers id task (Some due) }) id more

given_up_keeps : (p : Partition) (id : Id) (gives_up : Bool) → (given_up_in p id gives_up).stamp ≡ p.stamp
given_up_keeps p id true = refl
given_up_keeps p id false = refl

stands_keeps : (count : ℕ) (p : Partition) (id : Id) (stamp : ℕ) (event : Option Event) (e : Effect) → (stands_in count p id stamp event e).stamp ≡ p.stamp
stands_keeps count p id stamp event e =
    let stood : Partition = record p { instances = at_id p.instances id (option_map (row_after (p.instances id) stamp event) e.instance) } in
    post_all_keeps count (asked_in (given_up_in stood id e.gives_up) id e.asked) e.sent ∙ asked_keeps (given_up_in stood id e.gives_up) id e.asked ∙ given_up_keeps stood id e.gives_up

answered_keeps : (p : Partition) (to : Id) (number : ℕ) (answer : Answer) (taken : Option Message) → (answered_in p to number answer taken).stamp ≡ p.stamp
answered_keeps p to number answer None = refl
answered_keeps p to number answer (Some message) = refl

client_keeps : (p : Partition) (to : Id) (body : Body) → (client_received p to body).stamp ≡ p.stamp
client_keeps p to (result (to_request number) answer) = answered_keeps p to number answer (p.taken to number)
client_keeps p to (result to_nobody answer) = refl
client_keeps p to (result (to_task number) answer) = refl
client_keeps p to (start argument reply) = refl
client_keeps p to (raise event value number) = refl
client_keeps p to (query number) = refl
client_keeps p to (wait number) = refl
client_keeps p to (operate operation argument reply) = refl
client_keeps p to (lock id task set index) = refl
client_keeps p to (granted task) = refl
client_keeps p to release = refl

-- ---- what an item makes of it

where_so : (b : Bool) (p q : Partition) (stamp : ℕ) → p.stamp ≡ stamp → cond b (Some p) None ≡ Some q → q.stamp ≡ stamp
where_so true p q stamp keeps is = let same : p ≡ q = cc is in ap (λ (r : Partition). r.stamp) (sym same) ∙ keeps
where_so false p q stamp keeps is = absurd (cc is)

taken_keeps : (count : ℕ) (p q : Partition) (message : Message) (b : Bool) (taken : Option Message) → cond b (taken_in count p message taken) None ≡ Some q → q.stamp ≡ p.stamp
taken_keeps count p q message true None is =
    let before : Partition = record p { taken = at_number p.taken message.from (number_in message.body) (Some message) } in
    where_so true (post count before message) q p.stamp (post_keeps count before message) is
taken_keeps count p q message true (Some other) is = absurd (cc is)
taken_keeps count p q message false taken is = absurd (cc is)

ended_keeps : (flows : Flows) (count : ℕ) (p q : Partition) (id : Id) (task : ℕ) (outcome : Outcome) (o : Option Orchestration) (activity : Option Activity) → ended_in flows count p id task outcome o activity ≡ Some q → q.stamp ≡ p.stamp
ended_keeps flows count p q id task outcome (Some o) (Some activity) is =
    let event : Event = resulted task (answer_of outcome) in
    let effect : Effect = goes_on_from o event o.machine.last [] in
    let before : Partition = record p { activities = at_number p.activities id task None } in
    where_so true (stands_in count before id o.machine.last (Some event) effect) q p.stamp (stands_keeps count before id o.machine.last (Some event) effect) is
ended_keeps flows count p q id task outcome None activity is = absurd (cc is)
ended_keeps flows count p q id task outcome (Some o) None is = absurd (cc is)

received_keeps : (flows : Flows) (count : ℕ) (p q : Partition) (from to : Id) (stamp : ℕ) (body : Body) → received_in flows count p from to stamp body ≡ Some q → q.stamp ≡ p.stamp
received_keeps flows count p q from (orchestration flow key) stamp body is =
    let to : Id = orchestration flow key in
    let event : Option Event = event_of flows (instance_at flows p to) from to body in
    let effect : Effect = to_instance flows (instance_at flows p to) from to stamp body in
    where_so (nat_le (last_in (p.instances to)) stamp) (stands_in count p to stamp event effect) q p.stamp (stands_keeps count p to stamp event effect) is
received_keeps flows count p q from (entity class key) stamp body is =
    let to : Id = entity class key in
    let e : Entity = entity_of flows class (p.entities to) in
    let d : Delivered = deliver_to flows (record e { last = stamp }) class from to body in
    let before : Partition = record p { entities = at_id p.entities to (Some d.entity) } in
    where_so (takes e.holder from && nat_le e.last stamp) (post_all count before d.sent) q p.stamp (post_all_keeps count before d.sent) is
received_keeps flows count p q from (client name) stamp body is = where_so true (client_received p (client name) body) q p.stamp (client_keeps p (client name) body) is

ran_raises : (flows : Flows) (count : ℕ) (p q : Partition) (from to : Id) (stamp : ℕ) (found : Option Body) → delivered_in flows count p from to stamp found ≡ Some q → q.stamp ≡ (raised_to stamp p).stamp
ran_raises flows count p q from to stamp None is = absurd (cc is)
ran_raises flows count p q from to stamp (Some body) is = received_keeps flows count (raised_to stamp (record p { queue = without_first p.queue from to })) q from to stamp body is

fired_raises : (flows : Flows) (count : ℕ) (p q : Partition) (id : Id) (task stamp : ℕ) (o : Option Orchestration) (timer : Option ℕ) → fired_in flows count p id task stamp o timer ≡ Some q → q.stamp ≡ (raised_to stamp p).stamp
fired_raises flows count p q id task stamp (Some o) (Some due) is =
    let event : Event = timer_fired task in
    let effect : Effect = goes_on_from o event stamp [] in
    let before : Partition = raised_to stamp (record p { timers = at_number p.timers id task None }) in
    where_so (nat_le due stamp && nat_le o.machine.last stamp) (stands_in count before id stamp (Some event) effect) q (raised_to stamp p).stamp (stands_keeps count before id stamp (Some event) effect) is
fired_raises flows count p q id task stamp None timer is = absurd (cc is)
fired_raises flows count p q id task stamp (Some o) None is = absurd (cc is)

raised_is : (was stamp : ℕ) (b : Bool) → nat_le was stamp ≡ b → cond b stamp was ≡ max was stamp
raised_is was stamp b is = grind (arith)

-- the stamp of an item, where it has one
abbrev pub stamp_of : Item → ℕ
stamp_of (took message) = 0
stamp_of (got source number message) = 0
stamp_of (ran from to stamp) = stamp
stamp_of (ended id task outcome) = 0
stamp_of (fired id task stamp) = stamp
stamp_of (trim reader number) = 0

pub raised_max : (p : Partition) (stamp : ℕ) → (raised_to stamp p).stamp ≡ max p.stamp stamp
raised_max p stamp = raised_is p.stamp stamp (nat_le p.stamp stamp) refl

-- the greatest stamp behind an item is the greater of the one before and the item's
pub stamp_after : (flows : Flows) (count : ℕ) (p q : Partition) (item : Item) → accepted flows count p item ≡ Some q → q.stamp ≡ max p.stamp (stamp_of item)
stamp_after flows count p q (took message) is =
    taken_keeps count p q message (home count message.from == p.number && is_request message.from (number_in message.body) message) (p.taken message.from (number_in message.body)) is ∙ omega arith
stamp_after flows count p q (got source number message) is =
    where_so (not (source.partition == p.number) && (nat_lt source.partition count && (number == (p.inboxes source.partition).next && home count message.to == p.number)))
    (record p { queue = p.queue ++ message ∷ []; inboxes = with_inbox p.inboxes source.partition (record { next = number + 1; reader = entry_of p }) }) q p.stamp refl is ∙ omega arith
stamp_after flows count p q (ran from to stamp) is = ran_raises flows count p q from to stamp (first_in p.queue from to) is ∙ raised_max p stamp
stamp_after flows count p q (ended id task outcome) is = ended_keeps flows count p q id task outcome (instance_at flows p id) (p.activities id task) is ∙ omega arith
stamp_after flows count p q (fired id task stamp) is = fired_raises flows count p q id task stamp (instance_at flows p id) (p.timers id task) is ∙ raised_max p stamp
stamp_after flows count p q (trim reader number) is =
    where_so (not (reader.partition == p.number) && (nat_lt reader.partition count && nat_le number ((p.outboxes reader.partition).first + length (p.outboxes reader.partition).messages)))
    (record p { outboxes = with_first p.outboxes reader.partition number }) q p.stamp refl is ∙ omega arith
