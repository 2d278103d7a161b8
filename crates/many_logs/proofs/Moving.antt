-- What an entry makes of its partition's streams.
use Rattle.std.proofs.Common.{◌≡◌, ◌⊎◌, inl, inr, ◌≤◌, ◌<◌, ◌+◌, ◌-◌, ◌==◌, ◌&&◌, ℕ, zero, suc, length, drop, Bool, true, false, cond, List, [], ◌∷◌, ◌++◌, Option, Some, None, refl, sym, ap, subst, ◌∙◌, arith}
use Rattle.std.specs.Prelude.{nat_le, nat_lt, not, option_map}
use Rattle.std.proofs.lemmas.Bool.{leb-false, ltb-true, ltb-false, eqb-true, and_parts}
use Rattle.std.proofs.lemmas.List.{drop-drop}
use Rattle.dura_value.specs.declared.outcome.Outcome.{Outcome}
use Rattle.dura_value.specs.Ids.{Id, orchestration, entity, client, home}
use Rattle.dura_value.specs.Items.{Identity, Item, took, got, ran, ended, fired, trim, Entry, Posted}
use Rattle.dura_value.specs.Messages.{to_request, Answer, Body, result, Message}
use Rattle.flow_syntax.specs.Syntax.{Flows}
use Rattle.flow_syntax.specs.Machine.{Asked, an_activity, a_timer, Event, resulted, fired as timer_fired}
use Rattle.flow_syntax.specs.Entity.{takes, deliver as deliver_to}
use Rattle.dura_model.specs.World.{Orchestration, Activity}
use Rattle.dura_model.specs.Deliveries.{Effect, goes_on_from, to_instance}
use Rattle.dura_model.specs.Steps.{is_request, number_in, entity_of, answer_of}
use Rattle.dura_model.specs.Partition.{Inbox, Partition, entry_of, enter, instance_at, event_of, row_after, post, post_all, asked_in, given_up_in, stands_in, raised_to, first_in, without_first, last_in, answered_in, client_received, received_in, delivered_in, taken_in, ended_in, fired_in, with_inbox, got_in, trim_in, accepted}
use Rattle.log_items.specs.Streams.{Outbox, with_posted, begins_at, with_first}
use Rattle.dura_model.proofs.Basics.{passes, passed}
use Rattle.dura_model.specs.Entries.{all_accepted, entry_accepted}
use Rattle.many_logs.specs.Placing.{first_of, message_at}
use Rattle.dura_value.specs.ById.{at_id, at_number}
use Rattle.dura_value.proofs.Basics.{some_same, both_some}

-- ---- one stream

-- A stream comes from another by what one entry does: it begins no earlier, has each message that the other has under its number, unless
-- it begins behind that, and each of its own that the other hasn't is the entry's.
pub record Extends (entry : Identity) (a b : Outbox) : Type 0 where
  pub first : a.first ≤ b.first
  pub kept : (number : ℕ) (posted : Posted) → message_at a number ≡ Some posted → (number < b.first) ⊎ (message_at b number ≡ Some posted)
  pub old : (number : ℕ) (posted : Posted) → message_at b number ≡ Some posted → (message_at a number ≡ Some posted) ⊎ (posted.entry ≡ entry)

pub same_extends : (entry : Identity) (a : Outbox) → Extends entry a a
same_extends entry a = record { first = omega arith; kept = λ number posted is. inr is; old = λ number posted is. inl is }

extends_then : (entry : Identity) (a b c : Outbox) → Extends entry a b → Extends entry b c → Extends entry a c
extends_then entry a b c one two = record {
  first = omega (arith, one.first, two.first);
  kept = λ number posted is. keeps number posted (one.kept number posted is);
  old = λ number posted is. olds number posted (two.old number posted is);
}
  where
    keeps : (number : ℕ) (posted : Posted) → (number < b.first) ⊎ (message_at b number ≡ Some posted) → (number < c.first) ⊎ (message_at c number ≡ Some posted)
    keeps number posted (inl early) = let later = two.first in inl (omega (arith, early, later))
    keeps number posted (inr is) = two.kept number posted is

    olds : (number : ℕ) (posted : Posted) → (message_at b number ≡ Some posted) ⊎ (posted.entry ≡ entry) → (message_at a number ≡ Some posted) ⊎ (posted.entry ≡ entry)
    olds number posted (inl is) = one.old number posted is
    olds number posted (inr its) = inr its

-- the message under a number that is not before the first
pub message_on : (box : Outbox) (number : ℕ) (early : Bool) → nat_lt number box.first ≡ early → (posted : Posted) → cond early None (first_of (drop (number - box.first) box.messages)) ≡ Some posted → (box.first ≤ number) × (first_of (drop (number - box.first) box.messages) ≡ Some posted)
message_on box number true early posted is = absurd (cc is)
message_on box number false early posted is = (ltb-false number box.first early, is)

not_early : (box : Outbox) (number : ℕ) → box.first ≤ number → message_at box number ≡ first_of (drop (number - box.first) box.messages)
not_early box number behind = by (nat_lt number box.first) refl
  where
    by : (test : Bool) → nat_lt number box.first ≡ test → cond test None (first_of (drop (number - box.first) box.messages)) ≡ first_of (drop (number - box.first) box.messages)
    by true is = absurd (let low : number < box.first = ltb-true number box.first is in omega (arith, low, behind))
    by false is = refl

first_kept : (k : ℕ) (messages more : List Posted) (posted : Posted) → first_of (drop k messages) ≡ Some posted → first_of (drop k (messages ++ more)) ≡ Some posted
first_kept zero [] more posted is = absurd (cc is)
first_kept zero (one ∷ messages) more posted is = is
first_kept (suc k) [] more posted is = absurd (cc is)
first_kept (suc k) (one ∷ messages) more posted is = first_kept k messages more posted is

first_old : (k : ℕ) (messages : List Posted) (last posted : Posted) → first_of (drop k (messages ++ last ∷ [])) ≡ Some posted → (first_of (drop k messages) ≡ Some posted) ⊎ (posted ≡ last)
first_old zero [] last posted is = inr (sym (some_same is))
first_old zero (one ∷ messages) last posted is = inl is
first_old (suc k) [] last posted is = absurd (none k is)
  where
    none : (n : ℕ) → first_of (drop n []) ≡ Some posted → ⊥
    none zero wrong = cc wrong
    none (suc n) wrong = cc wrong
first_old (suc k) (one ∷ messages) last posted is = first_old k messages last posted is

pushed : (entry : Identity) (box : Outbox) (message : Message) → Extends entry box (record box { messages = box.messages ++ record { entry = entry; message = message } ∷ [] })
pushed entry box message = record {
  first = omega arith;
  kept = λ number posted is.
      let on = message_on box number (nat_lt number box.first) refl posted is in
      inr (not_early after number on.0 ∙ first_kept (number - box.first) box.messages (last ∷ []) posted on.1);
  old = λ number posted is.
      let on = message_on after number (nat_lt number box.first) refl posted is in
      olds number posted on.0 (first_old (number - box.first) box.messages last posted on.1);
}
  where
    last : Posted
    last = record { entry = entry; message = message }

    after : Outbox
    after = record box { messages = box.messages ++ last ∷ [] }

    olds : (number : ℕ) (posted : Posted) → box.first ≤ number → (first_of (drop (number - box.first) box.messages) ≡ Some posted) ⊎ (posted ≡ last) → (message_at box number ≡ Some posted) ⊎ (posted.entry ≡ entry)
    olds number posted behind (inl is) = inl (not_early box number behind ∙ is)
    olds number posted behind (inr is) = inr (ap (λ (p : Posted). p.entry) is)

begun : (entry : Identity) (upto : ℕ) (box : Outbox) → Extends entry box (begins_at upto box)
begun entry upto box = by (nat_le upto box.first) refl
  where
    later : Outbox
    later = record { first = upto; messages = drop (upto - box.first) box.messages }

    same_message : (number : ℕ) → box.first < upto → upto ≤ number → first_of (drop (number - upto) (drop (upto - box.first) box.messages)) ≡ first_of (drop (number - box.first) box.messages)
    same_message number high behind =
        let sum : upto - box.first + (number - upto) ≡ number - box.first = omega (arith, behind, high) in
        ap first_of (drop-drop (number - upto) (upto - box.first) box.messages ∙ ap (λ (k : ℕ). drop k box.messages) sum)

    keeps : box.first < upto → (number : ℕ) (posted : Posted) → message_at box number ≡ Some posted → (early : Bool) → nat_lt number upto ≡ early → (number < upto) ⊎ (message_at later number ≡ Some posted)
    keeps high number posted is true early = inl (ltb-true number upto early)
    keeps high number posted is false early =
        let on = message_on box number (nat_lt number box.first) refl posted is in
        let behind = ltb-false number upto early in
        inr (not_early later number behind ∙ same_message number high behind ∙ on.1)

    by : (low : Bool) → nat_le upto box.first ≡ low → Extends entry box (cond low box later)
    by true low = same_extends entry box
    by false low =
        let high : box.first < upto = leb-false upto box.first low in
        record {
          first = omega (arith, high);
          kept = λ number posted is. keeps high number posted is (nat_lt number upto) refl;
          old = λ number posted is.
              let on = message_on later number (nat_lt number upto) refl posted is in
              let behind = on.0 in
              inl (not_early box number (omega (arith, high, behind)) ∙ sym (same_message number high behind) ∙ on.1);
        }

-- How far a stream was taken in comes from another by what one entry does: it is no less far, and the same, or the entry took the last.
pub record Reads (entry : Identity) (a b : Inbox) : Type 0 where
  pub further : a.next ≤ b.next
  pub old : (b ≡ a) ⊎ (b.reader ≡ entry)

same_reads : (entry : Identity) (a : Inbox) → Reads entry a a
same_reads entry a = record { further = omega arith; old = inl refl }

reads_then : (entry : Identity) (a b c : Inbox) → Reads entry a b → Reads entry b c → Reads entry a c
reads_then entry a b c one two = record { further = omega (arith, one.further, two.further); old = by two.old one.old }
  where
    by : (c ≡ b) ⊎ (c.reader ≡ entry) → (b ≡ a) ⊎ (b.reader ≡ entry) → (c ≡ a) ⊎ (c.reader ≡ entry)
    by (inr its) before = inr its
    by (inl same) (inl is) = inl (same ∙ is)
    by (inl same) (inr its) = inr (ap (λ (box : Inbox). box.reader) same ∙ its)

-- ---- one state after another

-- In one entry each stream comes from what it was by what the entry does.
pub record Moves (p next : Partition) : Type 0 where
  pub number : next.number ≡ p.number
  pub position : next.position ≡ p.position
  pub incarnation : next.incarnation ≡ p.incarnation
  pub sent : (target : ℕ) → Extends (entry_of p) (p.outboxes target) (next.outboxes target)
  pub read : (source : ℕ) → Reads (entry_of p) (p.inboxes source) (next.inboxes source)

moves_then : (a b c : Partition) → Moves a b → Moves b c → Moves a c
moves_then a b c one two =
    let same : entry_of b ≡ entry_of a = λ i. record { partition = one.number i; incarnation = one.incarnation i; position = one.position i - 1 } in
    record {
      number = two.number ∙ one.number;
      position = two.position ∙ one.position;
      incarnation = two.incarnation ∙ one.incarnation;
      sent = λ target. extends_then (entry_of a) (a.outboxes target) (b.outboxes target) (c.outboxes target) (one.sent target) (subst (λ (e : Identity). Extends e (b.outboxes target) (c.outboxes target)) same (two.sent target));
      read = λ source. reads_then (entry_of a) (a.inboxes source) (b.inboxes source) (c.inboxes source) (one.read source) (subst (λ (e : Identity). Reads e (b.inboxes source) (c.inboxes source)) same (two.read source));
    }

-- the streams are as they were
same_moves : (p next : Partition) → next.number ≡ p.number → next.position ≡ p.position → next.incarnation ≡ p.incarnation → p.outboxes ≡ next.outboxes → p.inboxes ≡ next.inboxes → Moves p next
same_moves p next number position incarnation out in_there = record {
  number = number;
  position = position;
  incarnation = incarnation;
  sent = λ target. subst (λ (f : ℕ → Outbox). Extends (entry_of p) (p.outboxes target) (f target)) out (same_extends (entry_of p) (p.outboxes target));
  read = λ source. subst (λ (f : ℕ → Inbox). Reads (entry_of p) (p.inboxes source) (f source)) in_there (same_reads (entry_of p) (p.inboxes source));
}

moves_to : (p middle next : Partition) → Moves p middle → middle ≡ next → Moves p next
moves_to p middle next moves is = subst (Moves p) is moves

module _ (flows : Flows) (count : ℕ) where
  post_moves : (p : Partition) (message : Message) → Moves p (post count p message)
  post_moves p message = by (home count message.to == p.number)
    where
      posted : Posted
      posted = record { entry = entry_of p; message = message }

      boxes : ℕ → Bool → Outbox
      boxes other test = cond test (record (p.outboxes other) { messages = (p.outboxes other).messages ++ posted ∷ [] }) (p.outboxes other)

      more : (other : ℕ) (test : Bool) → Extends (entry_of p) (p.outboxes other) (boxes other test)
      more other true = pushed (entry_of p) (p.outboxes other) message
      more other false = same_extends (entry_of p) (p.outboxes other)

      by : (here : Bool) → Moves p (cond here (record p { queue = p.queue ++ message ∷ [] }) (record p { outboxes = with_posted p.outboxes (home count message.to) posted }))
      by true = same_moves p _ refl refl refl refl refl
      by false = record { number = refl; position = refl; incarnation = refl; sent = λ target. more target (home count message.to == target); read = λ source. same_reads (entry_of p) (p.inboxes source) }

  post_all_moves : (p : Partition) (messages : List Message) → Moves p (post_all count p messages)
  post_all_moves p [] = same_moves p p refl refl refl refl refl
  post_all_moves p (message ∷ messages) = moves_then p (post count p message) (post_all count (post count p message) messages) (post_moves p message) (post_all_moves (post count p message) messages)

  asked_moves : (p : Partition) (id : Id) (list : List Asked) → Moves p (asked_in p id list)
  asked_moves p id [] = same_moves p p refl refl refl refl refl
  asked_moves p id (an_activity task name argument ∷ more) =
      let next : Partition = record p { activities = at_number p.activities id task (Some (record { name = name; argument = argument })) } in
      moves_then p next (asked_in next id more) (same_moves p next refl refl refl refl refl) (asked_moves next id more)
  asked_moves p id (a_timer task due ∷ more) =
      let next : Partition = record p { timers = at_number p.timers id task (Some due) } in
      moves_then p next (asked_in next id more) (same_moves p next refl refl refl refl refl) (asked_moves next id more)

  given_up_moves : (p : Partition) (id : Id) (over : Bool) → Moves p (given_up_in p id over)
  given_up_moves p id true = same_moves p _ refl refl refl refl refl
  given_up_moves p id false = same_moves p p refl refl refl refl refl

  stands_moves : (p : Partition) (id : Id) (stamp : ℕ) (event : Option Event) (e : Effect) → Moves p (stands_in count p id stamp event e)
  stands_moves p id stamp event e =
      let stood : Partition = record p { instances = at_id p.instances id (option_map (row_after (p.instances id) stamp event) e.instance) } in
      let given = given_up_in stood id e.gives_up in
      let wanted = asked_in given id e.asked in
      moves_then p stood (post_all count wanted e.sent) (same_moves p stood refl refl refl refl refl)
      (moves_then stood given (post_all count wanted e.sent) (given_up_moves stood id e.gives_up)
      (moves_then given wanted (post_all count wanted e.sent) (asked_moves given id e.asked) (post_all_moves wanted e.sent)))

  -- ---- deliveries

  answered_moves : (p : Partition) (to : Id) (number : ℕ) (answer : Answer) (request : Option Message) → Moves p (answered_in p to number answer request)
  answered_moves p to number answer None = same_moves p p refl refl refl refl refl
  answered_moves p to number answer (Some message) = same_moves p _ refl refl refl refl refl

  client_moves : (p : Partition) (to : Id) (body : Body) → Moves p (client_received p to body)
  client_moves p to (result (to_request number) answer) = answered_moves p to number answer (p.taken to number)
  client_moves p to body = same_moves p p refl refl refl refl refl

  received_moves : (p next : Partition) (from to : Id) (stamp : ℕ) (body : Body) → received_in flows count p from to stamp body ≡ Some next → Moves p next
  received_moves p next from (orchestration flow key) stamp body is =
      let to = orchestration flow key in
      let e = to_instance flows (instance_at flows p to) from to stamp body in
      let event = event_of flows (instance_at flows p to) from to body in
      moves_to p (stands_in count p to stamp event e) next (stands_moves p to stamp event e) (passed (nat_le (last_in (p.instances to)) stamp) (stands_in count p to stamp event e) next is).1
  received_moves p next from (entity class key) stamp body is =
      let to = entity class key in
      let e = entity_of flows class (p.entities to) in
      let d = deliver_to flows (record e { last = stamp }) class from to body in
      let noted : Partition = record p { entities = at_id p.entities to (Some d.entity) } in
      moves_to p (post_all count noted d.sent) next (moves_then p noted (post_all count noted d.sent) (same_moves p noted refl refl refl refl refl) (post_all_moves noted d.sent))
      (passed (takes e.holder from && nat_le e.last stamp) (post_all count noted d.sent) next is).1
  received_moves p next from (client name) stamp body is = moves_to p (client_received p (client name) body) next (client_moves p (client name) body) (some_same is)

  delivered_moves : (p next : Partition) (from to : Id) (stamp : ℕ) (found : Option Body) → delivered_in flows count p from to stamp found ≡ Some next → Moves p next
  delivered_moves p next from to stamp None is = absurd (cc is)
  delivered_moves p next from to stamp (Some body) is =
      let later = raised_to stamp (record p { queue = without_first p.queue from to }) in
      moves_then p later next (same_moves p later refl refl refl refl refl) (received_moves later next from to stamp body is)

  -- ---- the other items

  taken_moves : (p next : Partition) (message : Message) (before : Option Message) → taken_in count p message before ≡ Some next → Moves p next
  taken_moves p next message None is =
      let noted : Partition = record p { taken = at_number p.taken message.from (number_in message.body) (Some message) } in
      moves_to p (post count noted message) next (moves_then p noted (post count noted message) (same_moves p noted refl refl refl refl refl) (post_moves noted message)) (some_same is)
  taken_moves p next message (Some other) is = absurd (cc is)

  ended_moves : (p next : Partition) (id : Id) (task : ℕ) (outcome : Outcome) (o : Option Orchestration) (activity : Option Activity) → ended_in flows count p id task outcome o activity ≡ Some next → Moves p next
  ended_moves p next id task outcome None activity is = absurd (cc is)
  ended_moves p next id task outcome (Some o) None is = absurd (cc is)
  ended_moves p next id task outcome (Some o) (Some activity) is =
      let less : Partition = record p { activities = at_number p.activities id task None } in
      let event = resulted task (answer_of outcome) in
      let e = goes_on_from o event o.machine.last [] in
      let after = stands_in count less id o.machine.last (Some event) e in
      moves_to p after next (moves_then p less after (same_moves p less refl refl refl refl refl) (stands_moves less id o.machine.last (Some event) e)) (some_same is)

  fired_moves : (p next : Partition) (id : Id) (task stamp : ℕ) (o : Option Orchestration) (timer : Option ℕ) → fired_in flows count p id task stamp o timer ≡ Some next → Moves p next
  fired_moves p next id task stamp None timer is = absurd (cc is)
  fired_moves p next id task stamp (Some o) None is = absurd (cc is)
  fired_moves p next id task stamp (Some o) (Some due) is =
      let later = raised_to stamp (record p { timers = at_number p.timers id task None }) in
      let event = timer_fired task in
      let e = goes_on_from o event stamp [] in
      let after = stands_in count later id stamp (Some event) e in
      moves_to p after next (moves_then p later after (same_moves p later refl refl refl refl refl) (stands_moves later id stamp (Some event) e)) (passed (nat_le due stamp && nat_le o.machine.last stamp) after next is).1

  got_moves : (p next : Partition) (source : Identity) (number : ℕ) (message : Message) → got_in count p source number message ≡ Some next → Moves p next
  got_moves p next source number message is = moves_to p after next (record { number = refl; position = refl; incarnation = refl; sent = λ target. same_extends (entry_of p) (p.outboxes target); read = λ other. reads other (source.partition == other) refl }) it.1
    where
      box : Inbox
      box = record { next = number + 1; reader = entry_of p }

      after : Partition
      after = record p { queue = p.queue ++ message ∷ []; inboxes = with_inbox p.inboxes source.partition box }

      away : Bool
      away = not (source.partition == p.number)

      low : Bool
      low = nat_lt source.partition count

      in_turn : Bool
      in_turn = number == (p.inboxes source.partition).next

      incarnations : Bool
      incarnations = home count message.to == p.number

      it : ((away && (low && (in_turn && incarnations))) ≡ true) × (after ≡ next)
      it = passed (away && (low && (in_turn && incarnations))) after next is

      reads : (other : ℕ) (same : Bool) → (source.partition == other) ≡ same → Reads (entry_of p) (p.inboxes other) (cond same box (p.inboxes other))
      reads other false apart = same_reads (entry_of p) (p.inboxes other)
      reads other true same =
          let turn : number ≡ (p.inboxes source.partition).next = eqb-true number (p.inboxes source.partition).next (and_parts in_turn incarnations (and_parts low (in_turn && incarnations) (and_parts away (low && (in_turn && incarnations)) it.0).1).1).0 in
          let there = ap (λ (n : ℕ). (p.inboxes n).next) (eqb-true source.partition other same) in
          record { further = omega (arith, turn, there); old = inr refl }

  trim_moves : (p next : Partition) (reader : Identity) (number : ℕ) → trim_in count p reader number ≡ Some next → Moves p next
  trim_moves p next reader number is = moves_to p after next (record { number = refl; position = refl; incarnation = refl; sent = λ other. has other (reader.partition == other); read = λ source. same_reads (entry_of p) (p.inboxes source) })
      (passed (not (reader.partition == p.number) && (nat_lt reader.partition count && nat_le number ((p.outboxes reader.partition).first + length (p.outboxes reader.partition).messages))) after next is).1
    where
      after : Partition
      after = record p { outboxes = with_first p.outboxes reader.partition number }

      has : (other : ℕ) (same : Bool) → Extends (entry_of p) (p.outboxes other) (cond same (begins_at number (p.outboxes other)) (p.outboxes other))
      has other true = begun (entry_of p) number (p.outboxes other)
      has other false = same_extends (entry_of p) (p.outboxes other)

  pub item_moves : (item : Item) (p next : Partition) → accepted flows count p item ≡ Some next → Moves p next
  item_moves (took message) p next is =
      taken_moves p next message (p.taken message.from (number_in message.body))
      (passes (home count message.from == p.number && is_request message.from (number_in message.body) message) (taken_in count p message (p.taken message.from (number_in message.body))) next is).1
  item_moves (got source number message) p next is = got_moves p next source number message is
  item_moves (ran from to stamp) p next is = delivered_moves p next from to stamp (first_in p.queue from to) is
  item_moves (ended id task outcome) p next is = ended_moves p next id task outcome (instance_at flows p id) (p.activities id task) is
  item_moves (fired id task stamp) p next is = fired_moves p next id task stamp (instance_at flows p id) (p.timers id task) is
  item_moves (trim reader number) p next is = trim_moves p next reader number is

  pub items_move : (items : List Item) (p next : Partition) → all_accepted flows count p items ≡ Some next → Moves p next
  items_move [] p next is = moves_to p p next (same_moves p p refl refl refl refl refl) (some_same is)
  items_move (item ∷ items) p next is =
      let first = both_some (accepted flows count p item) (λ q. all_accepted flows count q items) next is in
      moves_then p first.0 next (item_moves item p first.0 first.1) (items_move items first.0 next first.2)

  -- an entry moves the state in which it has begun
  pub entry_moves : (entry : Entry) (p next : Partition) → entry_accepted flows count p entry ≡ Some next → Moves (enter entry.incarnation p) next
  entry_moves entry p next is = items_move entry.items (enter entry.incarnation p) next is
