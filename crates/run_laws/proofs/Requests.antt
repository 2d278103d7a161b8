-- What was taken stays taken, what was answered stays answered, and only what was taken is answered.
use Rattle.std.proofs.Common.{◌≡◌, ◌==◌, ◌&&◌, ◌+◌, length, ℕ, Bool, true, false, cond, List, [], ◌∷◌, ◌++◌, Option, Some, None, Ok, refl, sym, ap, subst, ◌∙◌, eqb-true}
use Rattle.std.specs.Prelude.{option_map, nat_le, nat_lt, not, is_some}
use Rattle.std.specs.Option.{option_and_then}
use Rattle.dura_value.specs.Reading.{◌>>=◌}
use Rattle.dura_value.specs.declared.outcome.Outcome.{Outcome}
use Rattle.dura_value.specs.Ids.{Id, orchestration, entity, client, id_eq, home}
use Rattle.dura_value.specs.Items.{Item, took, got, ran, ended, fired, trim, Entry}
use Rattle.dura_value.specs.Messages.{to_nobody, to_task, to_request, Answer, Body, start, raise, query, wait, result, operate, lock, granted, release, Message}
use Rattle.dura_value.proofs.Ids.{id_same}
use Rattle.flow_syntax.specs.Syntax.{Flows}
use Rattle.flow_syntax.specs.Machine.{Event, resulted, Asked, an_activity, a_timer, fired as timer_fired}
use Rattle.flow_syntax.specs.Entity.{takes, deliver as deliver_to}
use Rattle.dura_model.specs.World.{Orchestration, Activity}
use Rattle.dura_value.specs.ById.{at_id, at_number}
use Rattle.dura_model.specs.Deliveries.{Effect, goes_on_from, to_instance}
use Rattle.dura_model.specs.Steps.{is_request, number_in, entity_of, answer_of}
use Rattle.dura_model.specs.Partition.{Partition, fresh, instance_at, event_of, row_after, raised_to, first_in, without_first, last_in, answered_in, client_received, entity_after, received_in, delivered_in, taken_in, ended_in, fired_in, entry_of, enter, with_inbox, post, post_all, asked_in, given_up_in, stands_in, accepted}
use Rattle.log_items.specs.Streams.{with_first, with_posted}
use Rattle.dura_model.proofs.Basics.{passes, passed}
use Rattle.dura_model.specs.Entries.{all_accepted, entry_accepted, or_place, placed}
use Rattle.run_laws.specs.Requests.{KeepsRequests, AnswersTaken}
use Rattle.dura_value.proofs.Basics.{some_same}

-- from one state to another requests stay, and only what was taken is answered
record Serves (p q : Partition) : Type 0 where
  keeps : KeepsRequests p q
  rightly : AnswersTaken p → AnswersTaken q

serves_on : (p q r : Partition) → Serves p q → Serves q r → Serves p r
serves_on p q r one two = record {
  keeps = record {
    taken = λ who number is. two.keeps.taken who number (one.keeps.taken who number is);
    answered = λ who number is. two.keeps.answered who number (one.keeps.answered who number is);
  };
  rightly = λ before. two.rightly (one.rightly before);
}

-- nothing of them changes
abbrev Same : Partition → Partition → Type 0
Same p q = (q.taken ≡ p.taken) × (q.answers ≡ p.answers)

same_serves : (p q : Partition) → Same p q → Serves p q
same_serves p q same = record {
  keeps = record {
    taken = λ who number is. ap (λ (f : Id → ℕ → Option Message). is_some (f who number)) same.0 ∙ is;
    answered = λ who number is. ap (λ (f : Id → ℕ → Option Answer). is_some (f who number)) same.1 ∙ is;
  };
  rightly = λ before who number is.
      ap (λ (f : Id → ℕ → Option Message). is_some (f who number)) same.0
      ∙ before who number (sym (ap (λ (f : Id → ℕ → Option Answer). is_some (f who number)) same.1) ∙ is);
}

-- what is put at a place leaves nothing empty that wasn't
put_there : {X : Type 0} (f : Id → ℕ → Option X) (id : Id) (number : ℕ) (x : X) (who : Id) (other : ℕ) → is_some (f who other) ≡ true → is_some (at_number f id number (Some x) who other) ≡ true
put_there {X} f id number x who other is = by (id_eq id who && number == other)
  where
    by : (here : Bool) → is_some (cond here (Some x) (f who other)) ≡ true
    by true = refl
    by false = is

-- ---- what leaves them as they are

asked_same : (q : Partition) (id : Id) (list : List Asked) → Same q (asked_in q id list)
asked_same q id [] = (refl, refl)
asked_same q id (an_activity task name argument ∷ more) = asked_same (record q { activities = at_number q.activities id task (Some (record { name = name; argument = argument })) }) id more
asked_same q id (a_timer task due ∷ more) = asked_same (record q { timers = at_number q.timers id task (Some due) }) id more

given_up_same : (q : Partition) (id : Id) (gives_up : Bool) → Same q (given_up_in q id gives_up)
given_up_same q id false = (refl, refl)
given_up_same q id true = (refl, refl)

post_same : (count : ℕ) (q : Partition) (message : Message) → Same q (post count q message)
post_same count q message = by (home count message.to == q.number)
  where
    by : (here : Bool) → Same q (cond here (record q { queue = q.queue ++ message ∷ [] }) (record q { outboxes = with_posted q.outboxes (home count message.to) (record { entry = entry_of q; message = message }) }))
    by true = (refl, refl)
    by false = (refl, refl)

post_all_same : (count : ℕ) (q : Partition) (messages : List Message) → Same q (post_all count q messages)
post_all_same count q [] = (refl, refl)
post_all_same count q (message ∷ messages) =
    let one = post_same count q message in
    let more = post_all_same count (post count q message) messages in
    (more.0 ∙ one.0, more.1 ∙ one.1)

stands_same : (count : ℕ) (q : Partition) (id : Id) (stamp : ℕ) (event : Option Event) (e : Effect) → Same q (stands_in count q id stamp event e)
stands_same count q id stamp event e =
    let there : Partition = record q { instances = at_id q.instances id (option_map (row_after (q.instances id) stamp event) e.instance) } in
    let left = given_up_in there id e.gives_up in
    let a = given_up_same there id e.gives_up in
    let b = asked_same left id e.asked in
    let c = post_all_same count (asked_in left id e.asked) e.sent in
    (c.0 ∙ b.0 ∙ a.0, c.1 ∙ b.1 ∙ a.1)

-- ---- items

answered_serves : (q : Partition) (to : Id) (number : ℕ) (answer : Answer) (request : Option Message) → q.taken to number ≡ request → Serves q (answered_in q to number answer request)
answered_serves q to number answer None there = same_serves q q (refl, refl)
answered_serves q to number answer (Some message) there = record {
  keeps = record {
    taken = λ who other is. is;
    answered = λ who other is. put_there q.answers to number answer who other is;
  };
  rightly = λ before who other is. by who other (before who other) (id_eq to who) refl (number == other) refl is;
}
  where
    by : (who : Id) (other : ℕ) → (is_some (q.answers who other) ≡ true → is_some (q.taken who other) ≡ true) → (here : Bool) → id_eq to who ≡ here → (same : Bool) → (number == other) ≡ same
        → is_some (cond (here && same) (Some answer) (q.answers who other)) ≡ true → is_some (q.taken who other) ≡ true
    by who other before true here true same is =
        subst (λ (n : ℕ). is_some (q.taken who n) ≡ true) (eqb-true number other same) (subst (λ (i : Id). is_some (q.taken i number) ≡ true) (id_same to who here) (ap is_some there))
    by who other before true here false same is = before is
    by who other before false here same same_is is = before is

client_serves : (q : Partition) (to : Id) (body : Body) → Serves q (client_received q to body)
client_serves q to (result (to_request number) answer) = answered_serves q to number answer (q.taken to number) refl
client_serves q to (result to_nobody answer) = same_serves q q (refl, refl)
client_serves q to (result (to_task task) answer) = same_serves q q (refl, refl)
client_serves q to (start argument reply) = same_serves q q (refl, refl)
client_serves q to (raise event value number) = same_serves q q (refl, refl)
client_serves q to (query number) = same_serves q q (refl, refl)
client_serves q to (wait number) = same_serves q q (refl, refl)
client_serves q to (operate operation argument reply) = same_serves q q (refl, refl)
client_serves q to (lock id task set index) = same_serves q q (refl, refl)
client_serves q to (granted task) = same_serves q q (refl, refl)
client_serves q to release = same_serves q q (refl, refl)

module _ (flows : Flows) (count : ℕ) where
  received_serves : (q next : Partition) (from to : Id) (stamp : ℕ) (body : Body) → received_in flows count q from to stamp body ≡ Some next → Serves q next
  received_serves q next from (orchestration flow key) stamp body is =
      let to = orchestration flow key in
      let e = to_instance flows (instance_at flows q to) from to stamp body in
      let event = event_of flows (instance_at flows q to) from to body in
      let after = stands_in count q to stamp event e in
      subst (Serves q) (passed (nat_le (last_in (q.instances to)) stamp) after next is).1 (same_serves q after (stands_same count q to stamp event e))
  received_serves q next from (entity class key) stamp body is =
      let to = entity class key in
      let e = entity_of flows class (q.entities to) in
      let d = deliver_to flows (record e { last = stamp }) class from to body in
      let after = entity_after count q to d in
      subst (Serves q) (passed (takes e.holder from && nat_le e.last stamp) after next is).1
      (same_serves q after (post_all_same count (record q { entities = at_id q.entities to (Some d.entity) }) d.sent))
  received_serves q next from (client name) stamp body is = subst (Serves q) (some_same is) (client_serves q (client name) body)

  delivered_serves : (q next : Partition) (from to : Id) (stamp : ℕ) (found : Option Body) → delivered_in flows count q from to stamp found ≡ Some next → Serves q next
  delivered_serves q next from to stamp None is = absurd (cc is)
  delivered_serves q next from to stamp (Some body) is =
      let less : Partition = raised_to stamp (record q { queue = without_first q.queue from to }) in
      serves_on q less next (same_serves q less (refl, refl)) (received_serves less next from to stamp body is)

  taken_serves : (q next : Partition) (message : Message) (before : Option Message) → taken_in count q message before ≡ Some next → Serves q next
  taken_serves q next message None is =
      let number = number_in message.body in
      let noted : Partition = record q { taken = at_number q.taken message.from number (Some message) } in
      let one : Serves q noted = record {
        keeps = record {
          taken = λ who other there. put_there q.taken message.from number message who other there;
          answered = λ who other there. there;
        };
        rightly = λ before who other there. put_there q.taken message.from number message who other (before who other there);
      } in
      subst (Serves q) (some_same is) (serves_on q noted (post count noted message) one (same_serves noted (post count noted message) (post_same count noted message)))
  taken_serves q next message (Some other) is = absurd (cc is)

  ended_serves : (q next : Partition) (id : Id) (task : ℕ) (outcome : Outcome) (there : Option Orchestration) (pending : Option Activity) → ended_in flows count q id task outcome there pending ≡ Some next → Serves q next
  ended_serves q next id task outcome None pending is = absurd (cc is)
  ended_serves q next id task outcome (Some o) None is = absurd (cc is)
  ended_serves q next id task outcome (Some o) (Some activity) is =
      let less : Partition = record q { activities = at_number q.activities id task None } in
      let event = resulted task (answer_of outcome) in
      let e = goes_on_from o event o.machine.last [] in
      subst (Serves q) (some_same is) (same_serves q (stands_in count less id o.machine.last (Some event) e) (stands_same count less id o.machine.last (Some event) e))

  fired_serves : (q next : Partition) (id : Id) (task stamp : ℕ) (there : Option Orchestration) (timer : Option ℕ) → fired_in flows count q id task stamp there timer ≡ Some next → Serves q next
  fired_serves q next id task stamp None timer is = absurd (cc is)
  fired_serves q next id task stamp (Some o) None is = absurd (cc is)
  fired_serves q next id task stamp (Some o) (Some due) is =
      let less : Partition = raised_to stamp (record q { timers = at_number q.timers id task None }) in
      let e = goes_on_from o (timer_fired task) stamp [] in
      let after = stands_in count less id stamp (Some (timer_fired task)) e in
      subst (Serves q) (passed (nat_le due stamp && nat_le o.machine.last stamp) after next is).1 (same_serves q after (stands_same count less id stamp (Some (timer_fired task)) e))

  came_serves : (q : Partition) (test : Bool) (after next : Partition) → Same q after → cond test (Some after) None ≡ Some next → Serves q next
  came_serves q test after next same is = subst (Serves q) (passed test after next is).1 (same_serves q after same)

  item_serves : (item : Item) (q next : Partition) → accepted flows count q item ≡ Some next → Serves q next
  item_serves (took message) q next is =
      let number = number_in message.body in
      let it = passes (home count message.from == q.number && is_request message.from number message) (taken_in count q message (q.taken message.from number)) next is in
      taken_serves q next message (q.taken message.from number) it.1
  item_serves (got source number message) q next is =
      came_serves q (not (source.partition == q.number) && (nat_lt source.partition count && (number == (q.inboxes source.partition).next && home count message.to == q.number)))
      (record q { queue = q.queue ++ message ∷ []; inboxes = with_inbox q.inboxes source.partition (record { next = number + 1; reader = entry_of q }) }) next (refl, refl) is
  item_serves (ran from to stamp) q next is = delivered_serves q next from to stamp (first_in q.queue from to) is
  item_serves (ended id task outcome) q next is = ended_serves q next id task outcome (instance_at flows q id) (q.activities id task) is
  item_serves (fired id task stamp) q next is = fired_serves q next id task stamp (instance_at flows q id) (q.timers id task) is
  item_serves (trim reader number) q next is =
      came_serves q (not (reader.partition == q.number) && (nat_lt reader.partition count && nat_le number ((q.outboxes reader.partition).first + length (q.outboxes reader.partition).messages)))
      (record q { outboxes = with_first q.outboxes reader.partition number }) next (refl, refl) is

  -- ---- entries

  items_serve : (items : List Item) (q last : Partition) → all_accepted flows count q items ≡ Some last → Serves q last
  items_serve [] q last is = same_serves q last (let same = some_same is in (ap (λ (p : Partition). p.taken) (sym same), ap (λ (p : Partition). p.answers) (sym same)))
  items_serve (item ∷ items) q last is = by (λ next. items_serve items next last) (accepted flows count q item) refl is
    where
      by : ((next : Partition) → all_accepted flows count next items ≡ Some last → Serves next last) → (found : Option Partition) → accepted flows count q item ≡ found
          → option_and_then (λ next. all_accepted flows count next items) found ≡ Some last → Serves q last
      by more None found rest = absurd (cc rest)
      by more (Some next) found rest = serves_on q next last (item_serves item q next found) (more next rest)

  entries_serve : (entries : List Entry) (q last : Partition) → placed flows count q entries ≡ Ok last → Serves q last
  entries_serve [] q last is = let same : q ≡ last = cc is in same_serves q last (ap (λ (p : Partition). p.taken) (sym same), ap (λ (p : Partition). p.answers) (sym same))
  entries_serve (entry ∷ entries) q last is = by (λ next. entries_serve entries next last) (entry_accepted flows count q entry) refl is
    where
      by : ((next : Partition) → placed flows count next entries ≡ Ok last → Serves next last) → (found : Option Partition) → entry_accepted flows count q entry ≡ found
          → (or_place entry.position found >>= λ next. placed flows count next entries) ≡ Ok last → Serves q last
      by more None found rest = absurd (cc rest)
      by more (Some next) found rest =
          let entered = enter entry.incarnation q in
          serves_on q entered last (same_serves q entered (refl, refl)) (serves_on entered next last (items_serve entry.items entered next found) (more next rest))

-- requests stay as they are by any entries
pub requests_stay : (flows : Flows) (count : ℕ) (p q : Partition) (entries : List Entry) → placed flows count p entries ≡ Ok q → KeepsRequests p q
requests_stay flows count p q entries is = (entries_serve flows count entries p q is).keeps

-- only what was taken is answered, by any entries from the beginning on
pub answers_taken : (flows : Flows) (count number : ℕ) (q : Partition) (entries : List Entry) → placed flows count (fresh number) entries ≡ Ok q → AnswersTaken q
answers_taken flows count number q entries is = (entries_serve flows count entries (fresh number) q is).rightly (λ who n there. absurd (cc there))

-- and by more behind them
pub answers_taken_on : (flows : Flows) (count : ℕ) (p q : Partition) (entries : List Entry) → AnswersTaken p → placed flows count p entries ≡ Ok q → AnswersTaken q
answers_taken_on flows count p q entries before is = (entries_serve flows count entries p q is).rightly before
