-- Items are labels.
use Rattle.std.proofs.Common.{◌≡◌, ◌==◌, ◌&&◌, ℕ, suc, Bool, true, false, cond, List, [], ◌∷◌, ◌++◌, Option, Some, None, refl, sym, ap, subst, ◌∙◌, eq-eqb}
use Rattle.std.specs.Prelude.{option_map, nat_le}
use Rattle.activity_table.specs.Table.{may}
use Rattle.dura_value.specs.declared.data.Value.{Value}
use Rattle.dura_value.specs.declared.outcome.Outcome.{Outcome}
use Rattle.dura_value.specs.Ids.{Id, orchestration, entity, client, home, id_eq}
use Rattle.dura_value.specs.Items.{took, ran, ended, fired}
use Rattle.dura_value.specs.Messages.{Reply, to_nobody, to_task, to_request, Answer, Spot, entity_at, Body, start, raise, query, wait, result, operate, lock, granted, release, Message}
use Rattle.flow_syntax.specs.Syntax.{Flows, Block, class_of}
use Rattle.flow_syntax.specs.Machine.{resulted, fired as timer_fired}
use Rattle.flow_syntax.specs.Entity.{Entity, answering, operated, operation_of, value_answer, lock_goes_on, takes, deliver as deliver_to}
use Rattle.dura_model.specs.World.{World, Orchestration, Activity, at_link}
use Rattle.dura_value.specs.ById.{at_id, at_number}
use Rattle.dura_model.specs.Deliveries.{goes_on_from, to_instance}
use Rattle.dura_model.specs.Steps.{take, deliver, finish, fire, is_request, number_in, taken, last_of, entity_of, to_entity, answered, to_client, received, delivered, answer_of, finished, timed, stands_as, sent, step}
use Rattle.dura_model.specs.Partition.{Row, Partition, instance_in, instance_at, event_of, raised_to, first_in, without_first, last_in, answered_in, client_received, entity_received, received_in, delivered_in, taken_in, ended_in, fired_in, post_all, stands_in, accepted, link_in}
use Rattle.dura_value.proofs.Ids.{id_same, id_self}
use Rattle.dura_model.proofs.Sending.{AllFrom}
use Rattle.dura_model.proofs.Rows.{Suits, instance_suits, row_goes_on}
use Rattle.dura_model.proofs.Merged.{merged, IsReady, post_merged, post_all_merged, stands_merged, taken_merged, timer_merged, activity_merged, entity_merged, answer_merged, link_both, behind, queue_at}
use Rattle.std.proofs.lemmas.Bool.{and_parts}
use Rattle.dura_value.proofs.Basics.{some_same}

-- ---- what an entity sends

answering_from : (id to : Id) (reply : Reply) (answer : Answer) → AllFrom id (answering id to reply answer)
answering_from id to to_nobody answer = tt
answering_from id to (to_task number) answer = (refl, tt)
answering_from id to (to_request number) answer = (refl, tt)

operated_from : (e : Entity) (from id : Id) (argument : Value) (reply : Reply) (body : Option Block) → AllFrom id (operated e from id argument reply body).sent
operated_from e from id argument reply None = answering_from id from reply _
operated_from e from id argument reply (Some body) = answering_from id from reply _

lock_from : (id other : Id) (task : ℕ) (set : List Spot) (index : ℕ) (next : Option Id) → AllFrom id (lock_goes_on id other task set index next ∷ [])
lock_from id other task set index None = (refl, tt)
lock_from id other task set index (Some next) = (refl, tt)

pub entity_from : (flows : Flows) (e : Entity) (class : List ℕ) (from id : Id) (body : Body) → AllFrom id (deliver_to flows e class from id body).sent
entity_from flows e class from id (operate operation argument reply) = operated_from e from id argument reply (operation_of (class_of flows class) operation)
entity_from flows e class from id (query number) = answering_from id from (to_request number) (value_answer (class_of flows class) e.value)
entity_from flows e class from id (lock other task set index) = lock_from id other task set (suc index) (entity_at set (suc index))
entity_from flows e class from id release = tt
entity_from flows e class from id (start argument reply) = tt
entity_from flows e class from id (raise event value number) = tt
entity_from flows e class from id (wait number) = tt
entity_from flows e class from id (result reply answer) = tt
entity_from flows e class from id (granted task) = tt

-- ---- the first message of a link in a queue

-- what is found is the first of its link, and without it the others are as they were
record IsFirst (queue : List Message) (from to : Id) (body : Body) : Type 0 where
  message : Message
  is : message.body ≡ body
  first : link_in queue from to ≡ message ∷ link_in (without_first queue from to) from to
  others : (x y : Id) → id_eq from x && id_eq to y ≡ false → link_in (without_first queue from to) x y ≡ link_in queue x y

-- the first one
first_here : (message : Message) (queue : List Message) (from to : Id) (body : Body) → id_eq from message.from && id_eq to message.to ≡ true → message.body ≡ body → IsFirst (message ∷ queue) from to body
first_here message queue from to body same is = record {
  message = message;
  is = is;
  first = ap (λ (b : Bool). cond b (message ∷ link_in queue from to) (link_in queue from to)) same ∙ ap (λ (b : Bool). message ∷ link_in (cond b queue (message ∷ without_first queue from to)) from to) (sym same);
  others = λ x y apart. ap (λ (b : Bool). link_in (cond b queue (message ∷ without_first queue from to)) x y) same ∙ ap (λ (b : Bool). cond b (message ∷ link_in queue x y) (link_in queue x y)) (sym (away x y apart));
}
  where
    parts_are : (id_eq from message.from ≡ true) × (id_eq to message.to ≡ true)
    parts_are = and_parts (id_eq from message.from) (id_eq to message.to) same

    away : (x y : Id) → id_eq from x && id_eq to y ≡ false → id_eq x message.from && id_eq y message.to ≡ false
    away x y apart = by (id_eq x message.from && id_eq y message.to) refl
      where
        by : (test : Bool) → id_eq x message.from && id_eq y message.to ≡ test → id_eq x message.from && id_eq y message.to ≡ false
        by true is_it =
            let also = and_parts (id_eq x message.from) (id_eq y message.to) is_it in
            let one : from ≡ x = id_same from message.from parts_are.0 ∙ sym (id_same x message.from also.0) in
            let two : to ≡ y = id_same to message.to parts_are.1 ∙ sym (id_same y message.to also.1) in
            let self : id_eq from from && id_eq to to ≡ true = ap (λ (b : Bool). b && id_eq to to) (id_self from) ∙ id_self to in
            let wrong : true ≡ false = sym self ∙ ap (λ (z : Id). id_eq from z && id_eq to to) one ∙ ap (λ (z : Id). id_eq from x && id_eq to z) two ∙ apart in
            absurd (cc wrong)
        by false is_it = is_it

-- a later one
first_later : (message : Message) (queue : List Message) (from to : Id) (body : Body) → id_eq from message.from && id_eq to message.to ≡ false → IsFirst queue from to body → IsFirst (message ∷ queue) from to body
first_later message queue from to body apart f = record {
  message = f.message;
  is = f.is;
  first =
      ap (λ (b : Bool). cond b (message ∷ link_in queue from to) (link_in queue from to)) apart
      ∙ f.first
      ∙ ap (λ (b : Bool). f.message ∷ cond b (message ∷ link_in (without_first queue from to) from to) (link_in (without_first queue from to) from to)) (sym apart)
      ∙ ap (λ (b : Bool). f.message ∷ link_in (cond b queue (message ∷ without_first queue from to)) from to) (sym apart);
  others = λ x y away.
      ap (λ (b : Bool). link_in (cond b queue (message ∷ without_first queue from to)) x y) apart
      ∙ ap (λ (l : List Message). cond (id_eq x message.from && id_eq y message.to) (message ∷ l) l) (f.others x y away);
}

is_first : (queue : List Message) (from to : Id) (body : Body) → first_in queue from to ≡ Some body → IsFirst queue from to body
is_first [] from to body is = absurd (cc is)
is_first (message ∷ queue) from to body is = by (id_eq from message.from && id_eq to message.to) refl is (is_first queue from to body)
  where
    by : (test : Bool) → id_eq from message.from && id_eq to message.to ≡ test → cond test (Some message.body) (first_in queue from to) ≡ Some body → (first_in queue from to ≡ Some body → IsFirst queue from to body)
        → IsFirst (message ∷ queue) from to body
    by true same found rest = first_here message queue from to body same (some_same found)
    by false apart found rest = first_later message queue from to body apart (rest found)

-- ---- items

module _ (flows : Flows) (count : ℕ) (parts : ℕ → Partition) (p : ℕ) where
  abbrev world : Partition → World
  world = merged flows count parts p

  abbrev Ready : Partition → Type 0
  Ready = IsReady flows count parts p

  chosen : (test : Bool) (q : Option Partition) (w : Option World) → option_map world q ≡ w → option_map world (cond test q None) ≡ cond test w None
  chosen true q w is = is
  chosen false q w is = refl

  here_is : (id : Id) → home count id ≡ p → (p == home count id) ≡ true
  here_is id here = eq-eqb p (home count id) (sym here)

  -- ---- requests

  taken_as : (q : Partition) (message : Message) (before : Option Message) → Ready q → home count message.from ≡ p
      → option_map world (taken_in count q message before) ≡ taken (world q) message.from (number_in message.body) message before
  taken_as q message None ready here =
      let noted : Partition = record q { taken = at_number q.taken message.from (number_in message.body) (Some message) } in
      ap Some (post_merged flows count parts p noted message (record { number = ready.number; alone = ready.alone; readers = ready.readers }) here
      ∙ ap (λ (w : World). sent w (message ∷ [])) (taken_merged flows count parts p q message.from (number_in message.body) (Some message) here))
  taken_as q message (Some other) ready here = refl

  pub took_as : (q : Partition) (message : Message) → Ready q → home count message.from ≡ p
      → option_map world (accepted flows count q (took message)) ≡ step flows (world q) (take message.from (number_in message.body) message)
  took_as q message ready here =
      let number = number_in message.body in
      ap (λ (b : Bool). option_map world (cond (b && is_request message.from number message) (taken_in count q message (q.taken message.from number)) None)) (eq-eqb (home count message.from) q.number (here ∙ sym ready.number))
      ∙ chosen (is_request message.from number message) (taken_in count q message (q.taken message.from number)) (taken (world q) message.from number message (q.taken message.from number)) (taken_as q message (q.taken message.from number) ready here)
      ∙ ap (λ (b : Bool). cond (is_request message.from number message) (taken (world q) message.from number message (cond b (q.taken message.from number) ((parts (home count message.from)).taken message.from number))) None) (sym (here_is message.from here))

  -- ---- activities and timers

  -- what stands here is what the world has
  instance_here : (q : Partition) (id : Id) → home count id ≡ p → instance_at flows q id ≡ (world q).orchestrations id
  instance_here q id here = ap (λ (b : Bool). cond b (instance_at flows q id) (instance_at flows (parts (home count id)) id)) (sym (here_is id here))

  goes_on_as : (q : Partition) (id : Id) (row : Row) (stamp : ℕ) (w : World) (event : _) → Ready q → home count id ≡ p → q.instances id ≡ Some row → world q ≡ w
      → world (stands_in count q id stamp (Some event) (goes_on_from (instance_in flows id row) event stamp [])) ≡ stands_as w id (goes_on_from (instance_in flows id row) event stamp [])
  goes_on_as q id row stamp w event ready here there is =
      let e = goes_on_from (instance_in flows id row) event stamp [] in
      let suits : Suits flows id (q.instances id) stamp (Some event) e = subst (λ (found : Option Row). Suits flows id found stamp (Some event) e) (sym there) (row_goes_on flows id row event stamp) in
      stands_merged flows count parts p q id stamp (Some event) e ready here suits.sent suits.fits ∙ ap (λ (v : World). stands_as v id e) is

  fired_as_row : (q : Partition) (id : Id) (task stamp : ℕ) (row : Option Row) (timer : Option ℕ) → Ready q → home count id ≡ p → q.instances id ≡ row
      → option_map world (fired_in flows count q id task stamp (option_map (instance_in flows id) row) timer) ≡ timed (world q) id task stamp (option_map (instance_in flows id) row) timer
  fired_as_row q id task stamp None timer ready here there = refl
  fired_as_row q id task stamp (Some row) None ready here there = refl
  fired_as_row q id task stamp (Some row) (Some due) ready here there =
      let over : Partition = raised_to stamp (record q { timers = at_number q.timers id task None }) in
      let o = instance_in flows id row in
      let event = timer_fired task in
      let w : World = record (world q) { timers = at_number (world q).timers id task None } in
      chosen (nat_le due stamp && nat_le o.machine.last stamp) (Some (stands_in count over id stamp (Some event) (goes_on_from o event stamp []))) (Some (stands_as w id (goes_on_from o event stamp [])))
      (ap Some (goes_on_as over id row stamp w event (record { number = ready.number; alone = ready.alone; readers = ready.readers }) here there (timer_merged flows count parts p q id task None here)))

  pub fired_as : (q : Partition) (id : Id) (task stamp : ℕ) → Ready q → home count id ≡ p
      → option_map world (accepted flows count q (fired id task stamp)) ≡ step flows (world q) (fire id task stamp)
  fired_as q id task stamp ready here =
      fired_as_row q id task stamp (q.instances id) (q.timers id task) ready here refl
      ∙ ap (λ (o : Option Orchestration). timed (world q) id task stamp o (q.timers id task)) (instance_here q id here)
      ∙ ap (λ (b : Bool). timed (world q) id task stamp ((world q).orchestrations id) (cond b (q.timers id task) ((parts (home count id)).timers id task))) (sym (here_is id here))

  ended_as_row : (q : Partition) (id : Id) (task : ℕ) (outcome : Outcome) (row : Option Row) (pending : Option Activity) → Ready q → home count id ≡ p → q.instances id ≡ row
      → ((activity : Activity) → pending ≡ Some activity → may activity.name activity.argument outcome ≡ true)
      → option_map world (ended_in flows count q id task outcome (option_map (instance_in flows id) row) pending) ≡ finished (world q) id task outcome (option_map (instance_in flows id) row) pending
  ended_as_row q id task outcome None pending ready here there given = refl
  ended_as_row q id task outcome (Some row) None ready here there given = refl
  ended_as_row q id task outcome (Some row) (Some activity) ready here there given =
      let over : Partition = record q { activities = at_number q.activities id task None } in
      let o = instance_in flows id row in
      let event = resulted task (answer_of outcome) in
      let w : World = record (world q) { activities = at_number (world q).activities id task None } in
      ap Some (goes_on_as over id row o.machine.last w event (record { number = ready.number; alone = ready.alone; readers = ready.readers }) here there (activity_merged flows count parts p q id task None here))
      ∙ ap (λ (b : Bool). cond b (Some (stands_as w id (goes_on_from o event o.machine.last []))) None) (sym (given activity refl))

  pub ended_as : (q : Partition) (id : Id) (task : ℕ) (outcome : Outcome) → Ready q → home count id ≡ p
      → ((activity : Activity) → q.activities id task ≡ Some activity → may activity.name activity.argument outcome ≡ true)
      → option_map world (accepted flows count q (ended id task outcome)) ≡ step flows (world q) (finish id task outcome)
  ended_as q id task outcome ready here given =
      ended_as_row q id task outcome (q.instances id) (q.activities id task) ready here refl given
      ∙ ap (λ (o : Option Orchestration). finished (world q) id task outcome o (q.activities id task)) (instance_here q id here)
      ∙ ap (λ (b : Bool). finished (world q) id task outcome ((world q).orchestrations id) (cond b (q.activities id task) ((parts (home count id)).activities id task))) (sym (here_is id here))

  -- ---- deliveries

  answered_as : (q : Partition) (to : Id) (number : ℕ) (answer : Answer) (request : Option Message) → home count to ≡ p
      → world (answered_in q to number answer request) ≡ answered (world q) to number answer request
  answered_as q to number answer None here = refl
  answered_as q to number answer (Some message) here = answer_merged flows count parts p q to number (Some answer) here

  client_as : (q : Partition) (to : Id) (body : Body) → home count to ≡ p → world (client_received q to body) ≡ to_client (world q) to body
  client_as q to (result (to_request number) answer) here =
      answered_as q to number answer (q.taken to number) here
      ∙ ap (λ (b : Bool). answered (world q) to number answer (cond b (q.taken to number) ((parts (home count to)).taken to number))) (sym (here_is to here))
  client_as q to (result to_nobody answer) here = refl
  client_as q to (result (to_task task) answer) here = refl
  client_as q to (start argument reply) here = refl
  client_as q to (raise event value number) here = refl
  client_as q to (query number) here = refl
  client_as q to (wait number) here = refl
  client_as q to (operate operation argument reply) here = refl
  client_as q to (lock id task set index) here = refl
  client_as q to (granted task) here = refl
  client_as q to release here = refl

  entity_as : (q : Partition) (class : List ℕ) (from to : Id) (stamp : ℕ) (body : Body) (e : Entity) → Ready q → home count to ≡ p
      → option_map world (entity_received flows count q class from to stamp body e) ≡ to_entity flows (world q) class from to stamp body e
  entity_as q class from to stamp body e ready here =
      let was : Entity = record e { last = stamp } in
      let d = deliver_to flows was class from to body in
      let after : Partition = record q { entities = at_id q.entities to (Some d.entity) } in
      let w : World = record (world q) { entities = at_id (world q).entities to (Some d.entity) } in
      chosen (takes e.holder from && nat_le e.last stamp) (Some (post_all count after d.sent)) (Some (sent w d.sent))
      (ap Some (post_all_merged flows count parts p after to d.sent (record { number = ready.number; alone = ready.alone; readers = ready.readers }) here (entity_from flows was class from to body)
      ∙ ap (λ (v : World). sent v d.sent) (entity_merged flows count parts p q to (Some d.entity) here)))

  last_same : (id : Id) (row : Option Row) → last_in row ≡ last_of (option_map (instance_in flows id) row)
  last_same id None = refl
  last_same id (Some row) = refl

  instance_as : (q : Partition) (from to : Id) (stamp : ℕ) (body : Body) (o : Option Orchestration) → Ready q → home count to ≡ p → instance_at flows q to ≡ o
      → option_map world (cond (nat_le (last_in (q.instances to)) stamp) (Some (stands_in count q to stamp (event_of flows (instance_at flows q to) from to body) (to_instance flows (instance_at flows q to) from to stamp body))) None)
      ≡ cond (nat_le (last_of o) stamp) (Some (stands_as (world q) to (to_instance flows o from to stamp body))) None
  instance_as q from to stamp body o ready here is =
      let e = to_instance flows (instance_at flows q to) from to stamp body in
      let event = event_of flows (instance_at flows q to) from to body in
      let suits = instance_suits flows to (q.instances to) from stamp body in
      chosen (nat_le (last_in (q.instances to)) stamp) (Some (stands_in count q to stamp event e)) (Some (stands_as (world q) to e)) (ap Some (stands_merged flows count parts p q to stamp event e ready here suits.sent suits.fits))
      ∙ ap (λ (last : ℕ). cond (nat_le last stamp) (Some (stands_as (world q) to e)) None) (last_same to (q.instances to))
      ∙ ap (λ (there : Option Orchestration). cond (nat_le (last_of there) stamp) (Some (stands_as (world q) to (to_instance flows there from to stamp body))) None) is

  received_as : (q : Partition) (from to : Id) (stamp : ℕ) (body : Body) → Ready q → home count to ≡ p
      → option_map world (received_in flows count q from to stamp body) ≡ received flows (world q) from to stamp body
  received_as q from (orchestration flow key) stamp body ready here =
      instance_as q from (orchestration flow key) stamp body ((world q).orchestrations (orchestration flow key)) ready here (instance_here q (orchestration flow key) here)
  received_as q from (entity class key) stamp body ready here =
      let to = entity class key in
      entity_as q class from to stamp body (entity_of flows class (q.entities to)) ready here
      ∙ ap (λ (b : Bool). to_entity flows (world q) class from to stamp body (entity_of flows class (cond b (q.entities to) ((parts (home count to)).entities to)))) (sym (here_is to here))
  received_as q from (client name) stamp body ready here = ap Some (client_as q (client name) body here)

  -- the queue without the first message of a link
  abbrev left : Partition → Id → Id → Partition
  left q from to = record q { queue = without_first q.queue from to }

  left_as : (q : Partition) (from to : Id) (body : Body) → IsFirst q.queue from to body → home count to ≡ p
      → world (left q from to) ≡ record (world q) { links = at_link (world q).links from to ((world (left q from to)).links from to) }
  left_as q from to body f here = λ i. record (world q) { links = λ x y. by x y (id_eq from x && id_eq to y) refl i }
    where
      by : (x y : Id) (test : Bool) → id_eq from x && id_eq to y ≡ test → (world (left q from to)).links x y ≡ cond test ((world (left q from to)).links from to) ((world q).links x y)
      by x y true is =
          let both = and_parts (id_eq from x) (id_eq to y) is in
          ap (λ (z : Id). (world (left q from to)).links z y) (sym (id_same from x both.0)) ∙ ap (λ (z : Id). (world (left q from to)).links from z) (sym (id_same to y both.1))
      by x y false is =
          let rest = behind flows count parts p q.inboxes q.outboxes (home count x) (home count y) in
          link_both (queue_at flows count parts p (without_first q.queue from to) (home count y)) rest x y
          ∙ ap (λ (l : List Message). l ++ link_in rest x y) (without (p == home count y))
          ∙ sym (link_both (queue_at flows count parts p q.queue (home count y)) rest x y)
        where
          without : (b : Bool) → link_in (cond b (without_first q.queue from to) (parts (home count y)).queue) x y ≡ link_in (cond b q.queue (parts (home count y)).queue) x y
          without true = f.others x y is
          without false = refl

  left_head : (q : Partition) (from to : Id) (body : Body) (f : IsFirst q.queue from to body) → home count to ≡ p → (world q).links from to ≡ f.message ∷ (world (left q from to)).links from to
  left_head q from to body f here =
      let rest = behind flows count parts p q.inboxes q.outboxes (home count from) (home count to) in
      let there = (parts (home count to)).queue in
      link_both (queue_at flows count parts p q.queue (home count to)) rest from to
      ∙ ap (λ (b : Bool). link_in (cond b q.queue there) from to ++ link_in rest from to) (here_is to here)
      ∙ ap (λ (l : List Message). l ++ link_in rest from to) f.first
      ∙ ap (λ (b : Bool). f.message ∷ (link_in (cond b (without_first q.queue from to) there) from to ++ link_in rest from to)) (sym (here_is to here))
      ∙ ap (λ (l : List Message). f.message ∷ l) (sym (link_both (queue_at flows count parts p (without_first q.queue from to) (home count to)) rest from to))

  pub ran_as : (q : Partition) (from to : Id) (stamp : ℕ) (body : Body) → Ready q → home count to ≡ p → first_in q.queue from to ≡ Some body
      → option_map world (accepted flows count q (ran from to stamp)) ≡ step flows (world q) (deliver from to stamp)
  ran_as q from to stamp body ready here found =
      let f = is_first q.queue from to body found in
      let r = left q from to in
      let rest = (world r).links from to in
      ap (λ (first : Option Body). option_map world (delivered_in flows count q from to stamp first)) found
      ∙ received_as (raised_to stamp r) from to stamp body (record { number = ready.number; alone = ready.alone; readers = ready.readers }) here
      ∙ ap (λ (w : World). received flows w from to stamp body) (left_as q from to body f here)
      ∙ ap (λ (b : Body). received flows (record (world q) { links = at_link (world q).links from to rest }) from to stamp b) (sym f.is)
      ∙ ap (λ (l : List Message). delivered flows (world q) from to stamp l) (sym (left_head q from to body f here))
