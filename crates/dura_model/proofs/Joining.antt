-- A label makes nothing of a partition's streams but messages that join those to others, from the entry that is under way.
use Rattle.std.proofs.Common.{◌≡◌, ◌<◌, ◌==◌, ◌&&◌, ℕ, ◌-◌, Bool, true, false, cond, List, [], ◌∷◌, ◌++◌, Option, Some, None, refl, sym, ap, subst, ◌∙◌}
use Rattle.std.specs.Prelude.{option_map, nat_le, is_some}
use Rattle.std.specs.List.{All}
use Rattle.std.proofs.lemmas.List.Elements.{All-nil, All-cons, All-append}
use Rattle.dura_value.specs.declared.outcome.Outcome.{Outcome}
use Rattle.dura_value.specs.Ids.{Id, orchestration, entity, client, home}
use Rattle.dura_value.specs.Items.{Identity, Item, took, got, ran, ended, fired, trim}
use Rattle.dura_value.specs.Messages.{to_nobody, to_task, to_request, Answer, Body, start, raise, query, wait, result, operate, lock, granted, release, Message}
use Rattle.flow_syntax.specs.Syntax.{Flows}
use Rattle.flow_syntax.specs.Machine.{Event, resulted, Asked, an_activity, a_timer, fired as timer_fired}
use Rattle.flow_syntax.specs.Entity.{takes, deliver as deliver_to}
use Rattle.dura_model.specs.World.{Orchestration, Activity}
use Rattle.dura_value.specs.ById.{at_id, at_number}
use Rattle.dura_model.specs.Deliveries.{Effect, goes_on_from, to_instance}
use Rattle.dura_model.specs.Steps.{is_request, number_in, entity_of, answer_of}
use Rattle.dura_model.specs.Partition.{Inbox, Partition, instance_at, event_of, row_after, raised_to, first_in, without_first, last_in, answered_in, client_received, received_in, delivered_in, taken_in, ended_in, fired_in, entry_of, entity_after, post, post_all, asked_in, given_up_in, stands_in, accepted, label_in}
use Rattle.log_items.specs.Streams.{Outbox, with_posted, Sent, with_sent}
use Rattle.log_items.proofs.Commutes.{sent_both}
use Rattle.dura_model.specs.Placed.{IsOther, IsSameEntry}
use Rattle.dura_model.proofs.Basics.{passes, passed, eqb_apart}
use Rattle.dura_model.proofs.Shown.{home_below}
use Rattle.dura_value.proofs.Basics.{some_same}

-- the state of this partition while this entry is under way
pub record IsIn (partition : ℕ) (e : Identity) (q : Partition) : Type 0 where
  pub number : q.number ≡ partition
  pub entry : entry_of q ≡ e

-- its streams, and the entry
abbrev Seen : Type 0
Seen = (ℕ → Outbox) × (ℕ → Inbox) × ℕ × ℕ × ℕ

abbrev seen : Partition → Seen
seen q = (q.outboxes, q.inboxes, q.number, q.position, q.incarnation)

pub same_entry_then : (a b c : Partition) → IsSameEntry a b → IsSameEntry b c → IsSameEntry a c
same_entry_then a b c one two = record { number = two.number ∙ one.number; position = two.position ∙ one.position; incarnation = two.incarnation ∙ one.incarnation }

pub goes_in : (partition : ℕ) (e : Identity) (q next : Partition) → IsIn partition e q → IsSameEntry q next → IsIn partition e next
goes_in partition e q next is same = record {
  number = same.number ∙ is.number;
  entry =
      ap (λ (n : ℕ). record { partition = n; incarnation = next.incarnation; position = next.position - 1 }) same.number
      ∙ ap (λ (n : ℕ). record { partition = q.number; incarnation = n; position = next.position - 1 }) same.incarnation
      ∙ ap (λ (n : ℕ). record { partition = q.number; incarnation = q.incarnation; position = n - 1 }) same.position
      ∙ is.entry;
}

module _ (count partition : ℕ) (e : Identity) where
  -- this entry sends it to another partition
  pub record IsOurs (one : Sent) : Type 0 where
    pub to : IsOther count partition one.to
    pub entry : one.posted.entry ≡ e

  -- A state comes from another one in the same entry, where these messages joined the streams, and nothing else was done to streams.
  pub record Joins (q next : Partition) : Type 0 where
    pub sent : List Sent
    pub ours : All IsOurs sent
    pub outboxes : next.outboxes ≡ with_sent q.outboxes sent
    pub inboxes : next.inboxes ≡ q.inboxes
    pub same : IsSameEntry q next

  pub joins_then : (a b c : Partition) → Joins a b → Joins b c → Joins a c
  joins_then a b c one two = record {
    sent = one.sent ++ two.sent;
    ours = All-append IsOurs one.sent two.sent one.ours two.ours;
    outboxes = two.outboxes ∙ ap (λ (boxes : ℕ → Outbox). with_sent boxes two.sent) one.outboxes ∙ sym (sent_both a.outboxes one.sent two.sent);
    inboxes = two.inboxes ∙ one.inboxes;
    same = same_entry_then a b c one.same two.same;
  }

  -- nothing was sent
  none_joins : (q next : Partition) → seen next ≡ seen q → Joins q next
  none_joins q next same = record {
    sent = [];
    ours = All-nil IsOurs;
    outboxes = ap (λ (s : Seen). s.0) same;
    inboxes = ap (λ (s : Seen). s.1) same;
    same = record { number = ap (λ (s : Seen). s.2) same; position = ap (λ (s : Seen). s.3) same; incarnation = ap (λ (s : Seen). s.4) same };
  }

  -- behind a change of other things
  joins_from : (q was next : Partition) → seen was ≡ seen q → Joins was next → Joins q next
  joins_from q was next same joins = joins_then q was next (none_joins q was same) joins

  -- ---- messages

  post_joins : (q : Partition) (message : Message) → partition < count → IsIn partition e q → Joins q (post count q message)
  post_joins q message below is = by (home count message.to == q.number) refl
    where
      target : ℕ
      target = home count message.to

      one : Sent
      one = record { to = target; posted = record { entry = entry_of q; message = message } }

      by : (test : Bool) → (target == q.number) ≡ test
          → Joins q (cond test (record q { queue = q.queue ++ message ∷ [] }) (record q { outboxes = with_posted q.outboxes target (record { entry = entry_of q; message = message }) }))
      by true here = none_joins q _ refl
      by false apart = record {
        sent = one ∷ [];
        ours = All-cons IsOurs one []
            (record { to = record { apart = λ wrong. eqb_apart target q.number apart (wrong ∙ sym is.number); below = home_below count partition message.to below }; entry = is.entry })
            (All-nil IsOurs);
        outboxes = refl;
        inboxes = refl;
        same = record { number = refl; position = refl; incarnation = refl };
      }

  post_all_joins : (q : Partition) (messages : List Message) → partition < count → IsIn partition e q → Joins q (post_all count q messages)
  post_all_joins q [] below is = none_joins q q refl
  post_all_joins q (message ∷ messages) below is =
      let one = post_joins q message below is in
      joins_then q (post count q message) (post_all count (post count q message) messages) one
      (post_all_joins (post count q message) messages below (goes_in partition e q (post count q message) is one.same))

  -- ---- an instance as an effect made it

  asked_joins : (q : Partition) (id : Id) (list : List Asked) → Joins q (asked_in q id list)
  asked_joins q id [] = none_joins q q refl
  asked_joins q id (an_activity task name argument ∷ more) =
      let after : Partition = record q { activities = at_number q.activities id task (Some (record { name = name; argument = argument })) } in
      joins_from q after (asked_in after id more) refl (asked_joins after id more)
  asked_joins q id (a_timer task due ∷ more) =
      let after : Partition = record q { timers = at_number q.timers id task (Some due) } in
      joins_from q after (asked_in after id more) refl (asked_joins after id more)

  given_up_joins : (q : Partition) (id : Id) (over : Bool) → Joins q (given_up_in q id over)
  given_up_joins q id false = none_joins q q refl
  given_up_joins q id true = none_joins q (given_up_in q id true) refl

  stands_joins : (q : Partition) (id : Id) (stamp : ℕ) (event : Option Event) (effect : Effect) → partition < count → IsIn partition e q → Joins q (stands_in count q id stamp event effect)
  stands_joins q id stamp event effect below is =
      let stood : Partition = record q { instances = at_id q.instances id (option_map (row_after (q.instances id) stamp event) effect.instance) } in
      let given = given_up_in stood id effect.gives_up in
      let wanted = asked_in given id effect.asked in
      let one = given_up_joins stood id effect.gives_up in
      let two = joins_then stood given wanted one (asked_joins given id effect.asked) in
      let three = joins_from q stood wanted refl two in
      joins_then q wanted (post_all count wanted effect.sent) three (post_all_joins wanted effect.sent below (goes_in partition e q wanted is three.same))

  -- ---- labels

  module _ (flows : Flows) (below : partition < count) where
    then_is : (q middle next : Partition) → Joins q middle → middle ≡ next → Joins q next
    then_is q middle next joins is = subst (Joins q) is joins

    fired_joins : (q next : Partition) (id : Id) (task stamp : ℕ) (o : Option Orchestration) (timer : Option ℕ) → IsIn partition e q → fired_in flows count q id task stamp o timer ≡ Some next → Joins q next
    fired_joins q next id task stamp None timer is made = absurd (cc made)
    fired_joins q next id task stamp (Some o) None is made = absurd (cc made)
    fired_joins q next id task stamp (Some o) (Some due) is made =
        let later : Partition = raised_to stamp (record q { timers = at_number q.timers id task None }) in
        let effect = goes_on_from o (timer_fired task) stamp [] in
        let after = stands_in count later id stamp (Some (timer_fired task)) effect in
        then_is q after next
        (joins_from q later after refl
        (stands_joins later id stamp (Some (timer_fired task)) effect below (record { number = is.number; entry = is.entry })))
        (passed (nat_le due stamp && nat_le o.machine.last stamp) after next made).1

    ended_joins : (q next : Partition) (id : Id) (task : ℕ) (outcome : Outcome) (o : Option Orchestration) (pending : Option Activity) → IsIn partition e q → ended_in flows count q id task outcome o pending ≡ Some next → Joins q next
    ended_joins q next id task outcome None pending is made = absurd (cc made)
    ended_joins q next id task outcome (Some o) None is made = absurd (cc made)
    ended_joins q next id task outcome (Some o) (Some activity) is made =
        let less : Partition = record q { activities = at_number q.activities id task None } in
        let event = resulted task (answer_of outcome) in
        let effect = goes_on_from o event o.machine.last [] in
        let after = stands_in count less id o.machine.last (Some event) effect in
        then_is q after next
        (joins_from q less after refl
        (stands_joins less id o.machine.last (Some event) effect below (record { number = is.number; entry = is.entry })))
        (some_same made)

    answered_joins : (q : Partition) (to : Id) (number : ℕ) (answer : Answer) (request : Option Message) → Joins q (answered_in q to number answer request)
    answered_joins q to number answer None = none_joins q q refl
    answered_joins q to number answer (Some message) = none_joins q _ refl

    client_joins : (q : Partition) (to : Id) (body : Body) → Joins q (client_received q to body)
    client_joins q to (result (to_request number) answer) = answered_joins q to number answer (q.taken to number)
    client_joins q to (result to_nobody answer) = none_joins q q refl
    client_joins q to (result (to_task task) answer) = none_joins q q refl
    client_joins q to (start argument reply) = none_joins q q refl
    client_joins q to (raise event value number) = none_joins q q refl
    client_joins q to (query number) = none_joins q q refl
    client_joins q to (wait number) = none_joins q q refl
    client_joins q to (operate operation argument reply) = none_joins q q refl
    client_joins q to (lock id task set index) = none_joins q q refl
    client_joins q to (granted task) = none_joins q q refl
    client_joins q to release = none_joins q q refl

    received_joins : (q next : Partition) (from to : Id) (stamp : ℕ) (body : Body) → IsIn partition e q → received_in flows count q from to stamp body ≡ Some next → Joins q next
    received_joins q next from (orchestration flow key) stamp body is made =
        let to = orchestration flow key in
        let effect = to_instance flows (instance_at flows q to) from to stamp body in
        let event = event_of flows (instance_at flows q to) from to body in
        then_is q (stands_in count q to stamp event effect) next (stands_joins q to stamp event effect below is) (passed (nat_le (last_in (q.instances to)) stamp) (stands_in count q to stamp event effect) next made).1
    received_joins q next from (entity class key) stamp body is made =
        let to = entity class key in
        let was = entity_of flows class (q.entities to) in
        let d = deliver_to flows (record was { last = stamp }) class from to body in
        let noted : Partition = record q { entities = at_id q.entities to (Some d.entity) } in
        then_is q (entity_after count q to d) next
        (joins_from q noted (post_all count noted d.sent) refl (post_all_joins noted d.sent below (record { number = is.number; entry = is.entry })))
        (passed (takes was.holder from && nat_le was.last stamp) (entity_after count q to d) next made).1
    received_joins q next from (client name) stamp body is made = then_is q (client_received q (client name) body) next (client_joins q (client name) body) (some_same made)

    delivered_joins : (q next : Partition) (from to : Id) (stamp : ℕ) (found : Option Body) → IsIn partition e q → delivered_in flows count q from to stamp found ≡ Some next → Joins q next
    delivered_joins q next from to stamp None is made = absurd (cc made)
    delivered_joins q next from to stamp (Some body) is made =
        let later : Partition = raised_to stamp (record q { queue = without_first q.queue from to }) in
        joins_from q later next refl (received_joins later next from to stamp body (record { number = is.number; entry = is.entry }) made)

    taken_joins : (q next : Partition) (message : Message) (before : Option Message) → IsIn partition e q → taken_in count q message before ≡ Some next → Joins q next
    taken_joins q next message None is made =
        let noted : Partition = record q { taken = at_number q.taken message.from (number_in message.body) (Some message) } in
        then_is q (post count noted message) next
        (joins_from q noted (post count noted message) refl (post_joins noted message below (record { number = is.number; entry = is.entry })))
        (some_same made)
    taken_joins q next message (Some other) is made = absurd (cc made)

    -- an item that is a label
    pub label_joins : (item : Item) (q next : Partition) → is_some (label_in item) ≡ true → IsIn partition e q → accepted flows count q item ≡ Some next → Joins q next
    label_joins (took message) q next some is made =
        let number = number_in message.body in
        let it = passes (home count message.from == q.number && is_request message.from number message) (taken_in count q message (q.taken message.from number)) next made in
        taken_joins q next message (q.taken message.from number) is it.1
    label_joins (ran from to stamp) q next some is made = delivered_joins q next from to stamp (first_in q.queue from to) is made
    label_joins (ended id task outcome) q next some is made = ended_joins q next id task outcome (instance_at flows q id) (q.activities id task) is made
    label_joins (fired id task stamp) q next some is made = fired_joins q next id task stamp (instance_at flows q id) (q.timers id task) is made
    label_joins (got source number message) q next some is made = absurd (cc some)
    label_joins (trim reader number) q next some is made = absurd (cc some)
