-- What an item makes of a partition: no instance has fewer tasks, and no activity is pending again.
use Rattle.std.proofs.Common.{◌≡◌, ◌≤◌, ◌<◌, ◌⊎◌, inl, inr, ◌==◌, ◌&&◌, ℕ, ◌+◌, Bool, true, false, cond, not, List, [], ◌∷◌, ◌++◌, length, Option, Some, None, refl, sym, ap, subst, ◌∙◌, arith}
use Rattle.std.specs.Prelude.{nat_le, nat_lt, option_map}
use Rattle.std.proofs.lemmas.Bool.{eqb-true}
use Rattle.dura_model.proofs.Basics.{passes, passed}
use Rattle.dura_model.proofs.Growing.{AllNew}
use Rattle.dura_model.proofs.Rows.{Suits, instance_suits, row_goes_on}
use Rattle.dura_model.specs.Deliveries.{Effect, to_instance, goes_on_from}
use Rattle.dura_model.specs.Partition.{Row, Partition, entry_of, instance_in, instance_at, event_of, row_after, post, post_all, asked_in, given_up_in, stands_in, raised_to, first_in, without_first, last_in, answered_in, client_received, entity_after, entity_received, received_in, delivered_in, taken_in, ended_in, fired_in, got_in, trim_in, accepted}
use Rattle.dura_model.specs.Steps.{is_request, number_in, entity_of, answer_of}
use Rattle.dura_model.specs.World.{Orchestration, Activity}
use Rattle.dura_value.proofs.Basics.{some_same}
use Rattle.dura_value.proofs.Ids.{id_same}
use Rattle.dura_value.specs.ById.{at_id, at_number}
use Rattle.dura_value.specs.Ids.{Id, orchestration, entity, client, id_eq, home}
use Rattle.dura_value.specs.Items.{Identity, Item, took, got, ran, ended, fired, trim}
use Rattle.dura_value.specs.Messages.{to_nobody, to_task, to_request, Answer, Body, start, raise, query, wait, result, operate, lock, granted, release, Message}
use Rattle.dura_value.specs.declared.outcome.Outcome.{Outcome}
use Rattle.flow_syntax.specs.Entity.{Entity, takes, deliver as deliver_to}
use Rattle.flow_syntax.specs.Machine.{Event, resulted, fired as timer_fired, Asked, an_activity, a_timer}
use Rattle.flow_syntax.specs.Syntax.{Flows}
use Rattle.log_items.specs.Streams.{with_posted}
use Rattle.task_laws.proofs.Effects.{Adds, goes_on_adds, instance_adds}
use Rattle.task_laws.specs.Asked.{tasks_of, tasks_at}

-- What is made of a partition: no instance has fewer tasks, and no activity becomes pending but under the number of a new task.
pub record Moves (flows : Flows) (p q : Partition) : Type 0 where
  pub more : (id : Id) → tasks_at flows p id ≤ tasks_at flows q id
  pub still : (id : Id) (task : ℕ) → (task < tasks_at flows p id) ⊎ (tasks_at flows q id ≤ task) → p.activities id task ≡ None → q.activities id task ≡ None

pub moves_not : (flows : Flows) (p : Partition) → Moves flows p p
moves_not flows p = record { more = λ id. omega arith; still = λ id task where_it_is is. is }

-- the same instances, and the same activities
pub moves_same : (flows : Flows) (p q : Partition) → q.instances ≡ p.instances → q.activities ≡ p.activities → Moves flows p q
moves_same flows p q same also = record {
  more = λ id. let is = ap (λ (f : Id → Option Row). tasks_of (option_map (instance_in flows id) (f id))) same in omega (arith, is);
  still = λ id task where_it_is is. ap (λ (f : Id → ℕ → Option Activity). f id task) also ∙ is;
}

pub moves_then : (flows : Flows) (p q r : Partition) → Moves flows p q → Moves flows q r → Moves flows p r
moves_then flows p q r one two = record {
  more = λ id. omega (arith, one.more id, two.more id);
  still = λ id task where_it_is is. by id task where_it_is is;
}
  where
    by : (id : Id) (task : ℕ) → (task < tasks_at flows p id) ⊎ (tasks_at flows r id ≤ task) → p.activities id task ≡ None → r.activities id task ≡ None
    by id task (inl below) is = two.still id task (inl (omega (arith, below, one.more id))) (one.still id task (inl below) is)
    by id task (inr above) is = two.still id task (inr above) (one.still id task (inr (omega (arith, above, two.more id))) is)

-- ---- what an effect makes

-- a message joins the queue, or the stream to its receiver's partition
abbrev posted : ℕ → Partition → Message → Bool → Partition
posted count p message here = cond here (record p { queue = p.queue ++ message ∷ [] }) (record p { outboxes = with_posted p.outboxes (home count message.to) (record { entry = entry_of p; message = message }) })

post_same : (count : ℕ) (p : Partition) (message : Message) → ((post count p message).instances ≡ p.instances) × ((post count p message).activities ≡ p.activities)
post_same count p message = by (home count message.to == p.number)
  where
    by : (here : Bool) → ((posted count p message here).instances ≡ p.instances) × ((posted count p message here).activities ≡ p.activities)
    by true = (refl, refl)
    by false = (refl, refl)

post_all_same : (count : ℕ) (p : Partition) (messages : List Message) → ((post_all count p messages).instances ≡ p.instances) × ((post_all count p messages).activities ≡ p.activities)
post_all_same count p [] = (refl, refl)
post_all_same count p (message ∷ messages) =
    let one = post_same count p message in
    let rest = post_all_same count (post count p message) messages in
    (rest.0 ∙ one.0, rest.1 ∙ one.1)

asked_same : (p : Partition) (id : Id) (list : List Asked) → (asked_in p id list).instances ≡ p.instances
asked_same p id [] = refl
asked_same p id (an_activity task name argument ∷ more) = asked_same (record p { activities = at_number p.activities id task (Some (record { name = name; argument = argument })) }) id more
asked_same p id (a_timer task due ∷ more) = asked_same (record p { timers = at_number p.timers id task (Some due) }) id more

given_up_same : (p : Partition) (id : Id) (over : Bool) → (given_up_in p id over).instances ≡ p.instances
given_up_same p id false = refl
given_up_same p id true = refl

-- a number that isn't new stays as it is
asked_none : (low high : ℕ) (p : Partition) (id : Id) (list : List Asked) (other : Id) (task : ℕ) → AllNew low high list → (id_eq id other ≡ true → (task < low) ⊎ (high ≤ task)) → p.activities other task ≡ None → (asked_in p id list).activities other task ≡ None
asked_none low high p id [] other task new old is = is
asked_none low high p id (an_activity number name argument ∷ more) other task new old is =
    asked_none low high (record p { activities = at_number p.activities id number (Some (record { name = name; argument = argument })) }) id more other task new.2 old (by (id_eq id other) (number == task) refl refl)
  where
    outside : number ≡ task → (task < low) ⊎ (high ≤ task) → ⊥
    outside same (inl below) = omega (arith, same, below, new.0)
    outside same (inr above) = omega (arith, same, above, new.1)

    by : (one two : Bool) → id_eq id other ≡ one → (number == task) ≡ two → cond (one && two) (Some (record { name = name; argument = argument })) (p.activities other task) ≡ None
    by true true same same_number = absurd (outside (eqb-true number task same_number) (old same))
    by true false same same_number = is
    by false two same same_number = is
asked_none low high p id (a_timer number due ∷ more) other task new old is = asked_none low high (record p { timers = at_number p.timers id number (Some due) }) id more other task new old is

given_up_none : (p : Partition) (id : Id) (over : Bool) (other : Id) (task : ℕ) → p.activities other task ≡ None → (given_up_in p id over).activities other task ≡ None
given_up_none p id false other task is = is
given_up_none p id true other task is = by (id_eq id other)
  where
    by : (same : Bool) → cond same None (p.activities other task) ≡ None
    by true = refl
    by false = is

-- a number under which one activity less is pending
less_none : (p : Partition) (id : Id) (number : ℕ) (other : Id) (task : ℕ) → p.activities other task ≡ None → at_number p.activities id number None other task ≡ None
less_none p id number other task is = by (id_eq id other && number == task)
  where
    by : (same : Bool) → cond same None (p.activities other task) ≡ None
    by true = refl
    by false = is

-- an instance stands as an effect made it, in a state with the same instances and no more activities than the one before
module _ (flows : Flows) (count : ℕ) (p v : Partition) (id : Id) (stamp : ℕ) (event : Option Event) (e : Effect) (same : v.instances ≡ p.instances) (fewer : (other : Id) (task : ℕ) → p.activities other task ≡ None → v.activities other task ≡ None)
    (adds : Adds (tasks_at flows p id) e) (suits : Suits flows id (v.instances id) stamp event e) where
  abbrev stood : Partition
  stood = record v { instances = at_id v.instances id (option_map (row_after (v.instances id) stamp event) e.instance) }

  abbrev given : Partition
  given = given_up_in stood id e.gives_up

  abbrev after : Partition
  after = asked_in given id e.asked

  abbrev last : Partition
  last = post_all count after e.sent

  rows : last.instances ≡ stood.instances
  rows = (post_all_same count after e.sent).0 ∙ asked_same given id e.asked ∙ given_up_same stood id e.gives_up

  -- the row that stands there for what the effect made
  tasks_by : (other : Id) (here : Bool) → id_eq id other ≡ here → tasks_of (option_map (instance_in flows other) (cond here (option_map (row_after (v.instances id) stamp event) e.instance) (v.instances other))) ≡ cond here (tasks_of e.instance) (tasks_at flows p other)
  tasks_by other true is = let it = id_same id other is in subst (λ (one : Id). tasks_of (option_map (instance_in flows one) (option_map (row_after (v.instances id) stamp event) e.instance)) ≡ tasks_of e.instance) it (ap tasks_of suits.fits)
  tasks_by other false is = ap (λ (f : Id → Option Row). tasks_of (option_map (instance_in flows other) (f other))) same

  tasks_are : (other : Id) (here : Bool) → id_eq id other ≡ here → tasks_at flows last other ≡ cond here (tasks_of e.instance) (tasks_at flows p other)
  tasks_are other here is =
      ap (λ (f : Id → Option Row). tasks_of (option_map (instance_in flows other) (f other))) rows
      ∙ ap (λ (b : Bool). tasks_of (option_map (instance_in flows other) (cond b (option_map (row_after (v.instances id) stamp event) e.instance) (v.instances other)))) is
      ∙ tasks_by other here is

  more : (other : Id) (here : Bool) → id_eq id other ≡ here → tasks_at flows p other ≤ tasks_at flows last other
  more other true is = let now = tasks_are other true is in let it = ap (tasks_at flows p) (id_same id other is) in omega (arith, now, it, adds.more)
  more other false is = let now = tasks_are other false is in omega (arith, now)

  old : (other : Id) (task : ℕ) → id_eq id other ≡ true → (task < tasks_at flows p other) ⊎ (tasks_at flows last other ≤ task) → (task < tasks_at flows p id) ⊎ (tasks_of e.instance ≤ task)
  old other task is (inl below) = let it = ap (tasks_at flows p) (id_same id other is) in inl (omega (arith, it, below))
  old other task is (inr above) = let now = tasks_are other true is in inr (omega (arith, now, above))

  stands_moves : Moves flows p (stands_in count v id stamp event e)
  stands_moves = record {
    more = λ other. more other (id_eq id other) refl;
    still = λ other task where_it_is is.
        ap (λ (f : Id → ℕ → Option Activity). f other task) (post_all_same count after e.sent).1
        ∙ asked_none (tasks_at flows p id) (tasks_of e.instance) given id e.asked other task adds.fresh (λ here. old other task here where_it_is)
        (given_up_none stood id e.gives_up other task (fewer other task is));
  }

-- ---- items

module _ (flows : Flows) (count : ℕ) where
  taken_moves : (p : Partition) (message : Message) (before : Option Message) (next : Partition) → taken_in count p message before ≡ Some next → Moves flows p next
  taken_moves p message None next is =
      let v : Partition = record p { taken = at_number p.taken message.from (number_in message.body) (Some message) } in
      let same = post_same count v message in
      subst (Moves flows p) (some_same is) (moves_same flows p (post count v message) same.0 same.1)
  taken_moves p message (Some other) next is = absurd (cc is)

  got_moves : (p : Partition) (source : Identity) (number : ℕ) (message : Message) (next : Partition) → got_in count p source number message ≡ Some next → Moves flows p next
  got_moves p source number message next is =
      subst (Moves flows p) (passed (not (source.partition == p.number) && (nat_lt source.partition count && (number == (p.inboxes source.partition).next && home count message.to == p.number))) _ next is).1 (moves_same flows p _ refl refl)

  trim_moves : (p : Partition) (reader : Identity) (number : ℕ) (next : Partition) → trim_in count p reader number ≡ Some next → Moves flows p next
  trim_moves p reader number next is =
      subst (Moves flows p) (passed (not (reader.partition == p.number) && (nat_lt reader.partition count && nat_le number ((p.outboxes reader.partition).first + length (p.outboxes reader.partition).messages))) _ next is).1 (moves_same flows p _ refl refl)

  answered_moves : (p : Partition) (to : Id) (number : ℕ) (answer : Answer) (before : Option Message) → Moves flows p (answered_in p to number answer before)
  answered_moves p to number answer None = moves_not flows p
  answered_moves p to number answer (Some message) = moves_same flows p _ refl refl

  client_moves : (p : Partition) (to : Id) (body : Body) → Moves flows p (client_received p to body)
  client_moves p to (start argument reply) = moves_not flows p
  client_moves p to (raise event value number) = moves_not flows p
  client_moves p to (query number) = moves_not flows p
  client_moves p to (wait number) = moves_not flows p
  client_moves p to (result to_nobody answer) = moves_not flows p
  client_moves p to (result (to_task task) answer) = moves_not flows p
  client_moves p to (result (to_request number) answer) = answered_moves p to number answer (p.taken to number)
  client_moves p to (operate operation argument reply) = moves_not flows p
  client_moves p to (lock id task set index) = moves_not flows p
  client_moves p to (granted task) = moves_not flows p
  client_moves p to release = moves_not flows p

  entity_moves : (p : Partition) (class : List ℕ) (from to : Id) (stamp : ℕ) (body : Body) (e : Entity) (next : Partition) → entity_received flows count p class from to stamp body e ≡ Some next → Moves flows p next
  entity_moves p class from to stamp body e next is =
      let d = deliver_to flows (record e { last = stamp }) class from to body in
      let v : Partition = record p { entities = at_id p.entities to (Some d.entity) } in
      let sends = post_all_same count v d.sent in
      subst (Moves flows p) (passed (takes e.holder from && nat_le e.last stamp) (entity_after count p to d) next is).1 (moves_same flows p (entity_after count p to d) sends.0 sends.1)

  received_moves : (p : Partition) (from to : Id) (stamp : ℕ) (body : Body) (next : Partition) → received_in flows count p from to stamp body ≡ Some next → Moves flows p next
  received_moves p from (orchestration flow key) stamp body next is =
      let to = orchestration flow key in
      let event = event_of flows (instance_at flows p to) from to body in
      let e = to_instance flows (instance_at flows p to) from to stamp body in
      subst (Moves flows p) (passed (nat_le (last_in (p.instances to)) stamp) (stands_in count p to stamp event e) next is).1
      (stands_moves flows count p p to stamp event e refl (λ other task none. none) (instance_adds flows (instance_at flows p to) from to stamp body) (instance_suits flows to (p.instances to) from stamp body))
  received_moves p from (entity class key) stamp body next is = entity_moves p class from (entity class key) stamp body (entity_of flows class (p.entities (entity class key))) next is
  received_moves p from (client name) stamp body next is = subst (Moves flows p) (some_same is) (client_moves p (client name) body)

  delivered_moves : (p : Partition) (from to : Id) (stamp : ℕ) (found : Option Body) (next : Partition) → delivered_in flows count p from to stamp found ≡ Some next → Moves flows p next
  delivered_moves p from to stamp None next is = absurd (cc is)
  delivered_moves p from to stamp (Some body) next is =
      let v : Partition = raised_to stamp (record p { queue = without_first p.queue from to }) in
      moves_then flows p v next (moves_same flows p v refl refl) (received_moves v from to stamp body next is)

  ended_moves : (p : Partition) (id : Id) (task : ℕ) (outcome : Outcome) (row : Option Row) (pending : Option Activity) (next : Partition) → p.instances id ≡ row → ended_in flows count p id task outcome (option_map (instance_in flows id) row) pending ≡ Some next → Moves flows p next
  ended_moves p id task outcome None pending next there is = absurd (cc is)
  ended_moves p id task outcome (Some row) None next there is = absurd (cc is)
  ended_moves p id task outcome (Some row) (Some activity) next there is =
      let o = instance_in flows id row in
      let event = resulted task (answer_of outcome) in
      let v : Partition = record p { activities = at_number p.activities id task None } in
      subst (Moves flows p) (some_same is)
      (stands_moves flows count p v id o.machine.last (Some event) (goes_on_from o event o.machine.last []) refl (less_none p id task)
      (subst (λ (r : Option Row). Adds (tasks_of (option_map (instance_in flows id) r)) (goes_on_from o event o.machine.last [])) (sym there) (goes_on_adds o event o.machine.last []))
      (subst (λ (r : Option Row). Suits flows id r o.machine.last (Some event) (goes_on_from o event o.machine.last [])) (sym there) (row_goes_on flows id row event o.machine.last)))

  timed_moves : (p : Partition) (id : Id) (task stamp : ℕ) (row : Option Row) (timer : Option ℕ) (next : Partition) → p.instances id ≡ row → fired_in flows count p id task stamp (option_map (instance_in flows id) row) timer ≡ Some next → Moves flows p next
  timed_moves p id task stamp None timer next there is = absurd (cc is)
  timed_moves p id task stamp (Some row) None next there is = absurd (cc is)
  timed_moves p id task stamp (Some row) (Some due) next there is =
      let o = instance_in flows id row in
      let event = timer_fired task in
      let v : Partition = raised_to stamp (record p { timers = at_number p.timers id task None }) in
      let e = goes_on_from o event stamp [] in
      subst (Moves flows p) (passed (nat_le due stamp && nat_le o.machine.last stamp) (stands_in count v id stamp (Some event) e) next is).1
      (stands_moves flows count p v id stamp (Some event) e refl (λ other number none. none)
      (subst (λ (r : Option Row). Adds (tasks_of (option_map (instance_in flows id) r)) e) (sym there) (goes_on_adds o event stamp []))
      (subst (λ (r : Option Row). Suits flows id r stamp (Some event) e) (sym there) (row_goes_on flows id row event stamp)))

  pub accepted_moves : (p : Partition) (item : Item) (next : Partition) → accepted flows count p item ≡ Some next → Moves flows p next
  accepted_moves p (took message) next is =
      taken_moves p message (p.taken message.from (number_in message.body)) next (passes (home count message.from == p.number && is_request message.from (number_in message.body) message) (taken_in count p message (p.taken message.from (number_in message.body))) next is).1
  accepted_moves p (got source number message) next is = got_moves p source number message next is
  accepted_moves p (ran from to stamp) next is = delivered_moves p from to stamp (first_in p.queue from to) next is
  accepted_moves p (ended id task outcome) next is = ended_moves p id task outcome (p.instances id) (p.activities id task) next refl is
  accepted_moves p (fired id task stamp) next is = timed_moves p id task stamp (p.instances id) (p.timers id task) next refl is
  accepted_moves p (trim reader number) next is = trim_moves p reader number next is

  -- an outcome is accepted of what is pending
  pub ended_pending : (p : Partition) (id : Id) (task : ℕ) (outcome : Outcome) (o : Option Orchestration) (pending : Option Activity) (next : Partition) → ended_in flows count p id task outcome o pending ≡ Some next → pending ≡ None → ⊥
  ended_pending p id task outcome None pending next is none = cc is
  ended_pending p id task outcome (Some o) None next is none = cc is
  ended_pending p id task outcome (Some o) (Some activity) next is none = cc none
