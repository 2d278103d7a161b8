-- Accepted items keep what the states of all partitions need so that they show a world.
use Rattle.std.proofs.Common.{◌≡◌, ◌≤◌, ◌<◌, ◌+◌, ◌-◌, ◌==◌, ◌&&◌, ◌⊎◌, inl, inr, ℕ, length, drop, Bool, true, false, cond, List, [], ◌∷◌, ◌++◌, Option, Some, None, refl, sym, ap, subst, ◌∙◌, arith}
use Rattle.std.specs.Prelude.{option_map, nat_le, nat_lt, not, is_some}
use Rattle.std.specs.List.{Contains}
use Rattle.std.proofs.lemmas.Bool.{eqb-true, leb-true, leb-false, ltb-true, and_parts}
use Rattle.std.proofs.lemmas.List.{length-drop}
use Rattle.dura_value.specs.declared.outcome.Outcome.{Outcome}
use Rattle.dura_value.specs.Ids.{Id, orchestration, entity, client, home}
use Rattle.dura_value.specs.Items.{Identity, Item, took, got, ran, ended, fired, trim, Posted}
use Rattle.dura_value.specs.Messages.{Reply, to_nobody, to_task, to_request, Answer, Body, start, raise, query, wait, result, operate, lock, granted, release, Message}
use Rattle.flow_syntax.specs.Syntax.{Flows, Block, class_of}
use Rattle.flow_syntax.specs.Machine.{resulted, fired as timer_fired}
use Rattle.flow_syntax.specs.Entity.{Entity, operated, operation_of, takes, deliver as deliver_to}
use Rattle.dura_model.specs.World.{empty, Activity}
use Rattle.dura_value.specs.ById.{at_id, at_number}
use Rattle.dura_model.specs.Deliveries.{goes_on_from, to_instance}
use Rattle.dura_model.specs.Steps.{is_request, number_in, entity_of, answer_of}
use Rattle.dura_model.specs.Partition.{label_in, enter, fresh, shown, Row, Inbox, Partition, entry_of, instance_in, instance_at, event_of, raised_to, first_in, without_first, last_in, answered_in, client_received, entity_received, received_in, delivered_in, taken_in, ended_in, fired_in, with_inbox, post, post_all, stands_in, accepted, with_part}
use Rattle.log_items.specs.Streams.{Outbox, begins_at, with_first}
use Rattle.dura_model.specs.Placed.{IsOther, IsStreamed, Belongs, AreShown, happens_at, IsOfStreams, IsSameEntry}
use Rattle.dura_model.proofs.Basics.{passes, passed}
use Rattle.dura_model.proofs.Rows.{instance_suits, row_goes_on}
use Rattle.dura_model.proofs.Items.{entity_from}
use Rattle.dura_model.proofs.Shown.{home_below, silent}
use Rattle.dura_model.proofs.Belonging.{got_belongs, trim_belongs, enter_belongs}
use Rattle.dura_model.proofs.Keeping.{Follows, follows_then, taken_follows, answers_follows, activities_follows, timers_follows, raised_follows, entity_follows, queue_follows, post_follows, post_all_follows, stands_follows, without_contained, first_lives}
use Rattle.dura_value.proofs.Basics.{some_same}

-- an entity that was delivered to is at the stamp that it was at
operated_last : (e : Entity) (from to : Id) (argument : _) (reply : Reply) (body : Option Block) → (operated e from to argument reply body).entity.last ≡ e.last
operated_last e from to argument reply None = refl
operated_last e from to argument reply (Some body) = refl

entity_last : (flows : Flows) (e : Entity) (class : List ℕ) (from to : Id) (body : Body) → (deliver_to flows e class from to body).entity.last ≡ e.last
entity_last flows e class from to (operate operation argument reply) = operated_last e from to argument reply (operation_of (class_of flows class) operation)
entity_last flows e class from to (query number) = refl
entity_last flows e class from to (lock other task set index) = refl
entity_last flows e class from to release = refl
entity_last flows e class from to (start argument reply) = refl
entity_last flows e class from to (raise event value number) = refl
entity_last flows e class from to (wait number) = refl
entity_last flows e class from to (result reply answer) = refl
entity_last flows e class from to (granted task) = refl

module _ (flows : Flows) (count p : ℕ) where
  abbrev Comes : Partition → Partition → Type 0
  Comes = Follows count p

  same : (q : Partition) → Belongs count p q → 0 < q.position → Comes q q
  same q b begun = record { belongs = b; begun = begun; position = refl; incarnation = refl; first = λ target. refl; longer = λ target. omega arith; read = λ source. refl }

  then_is : (q middle next : Partition) → Comes q middle → middle ≡ next → Comes q next
  then_is q middle next comes is = subst (Comes q) is comes

  -- ---- requests

  taken_comes : (q next : Partition) (message : Message) (before : Option Message) → p < count → home count message.from ≡ p → Belongs count p q → 0 < q.position → taken_in count q message before ≡ Some next → Comes q next
  taken_comes q next message None below here b begun is =
      let noted : Partition = record q { taken = at_number q.taken message.from (number_in message.body) (Some message) } in
      let one = taken_follows count p q message.from (number_in message.body) (Some message) here b begun in
      then_is q (post count noted message) next (follows_then count p q noted (post count noted message) one (post_follows count p noted message here (home_below count p message.to below) one.belongs one.begun)) (some_same is)
  taken_comes q next message (Some other) below here b begun is = absurd (cc is)

  -- ---- activities and timers

  event_comes : (q : Partition) (id : Id) (row : Row) (stamp : ℕ) (event : _) → p < count → home count id ≡ p → Belongs count p q → 0 < q.position → q.instances id ≡ Some row → stamp ≤ q.stamp
      → Comes q (stands_in count q id stamp (Some event) (goes_on_from (instance_in flows id row) event stamp []))
  event_comes q id row stamp event below here b begun there low =
      let e = goes_on_from (instance_in flows id row) event stamp [] in
      stands_follows count p q id stamp (Some event) e (λ to. home_below count p to below) here (row_goes_on flows id row event stamp).sent b begun low

  fired_comes : (q next : Partition) (id : Id) (task stamp : ℕ) (row : Option Row) (timer : Option ℕ) → p < count → Belongs count p q → 0 < q.position → q.instances id ≡ row
      → fired_in flows count q id task stamp (option_map (instance_in flows id) row) timer ≡ Some next → Comes q next
  fired_comes q next id task stamp None timer below b begun there is = absurd (cc is)
  fired_comes q next id task stamp (Some row) None below b begun there is = absurd (cc is)
  fired_comes q next id task stamp (Some row) (Some due) below b begun there is =
      let here = b.rows.kept id row there in
      let less : Partition = record q { timers = at_number q.timers id task None } in
      let later = raised_to stamp less in
      let event = timer_fired task in
      let after = stands_in count later id stamp (Some event) (goes_on_from (instance_in flows id row) event stamp []) in
      let one = timers_follows count p q id task None here b begun in
      let two = raised_follows count p less stamp one.belongs one.begun in
      let three = event_comes later id row stamp event below here two.0.belongs two.0.begun there two.1 in
      then_is q after next (follows_then count p q less after one (follows_then count p less later after two.0 three)) (passed (nat_le due stamp && nat_le row.stamp stamp) after next is).1

  ended_comes : (q next : Partition) (id : Id) (task : ℕ) (outcome : Outcome) (row : Option Row) (pending : Option Activity) → p < count → Belongs count p q → 0 < q.position → q.instances id ≡ row
      → ended_in flows count q id task outcome (option_map (instance_in flows id) row) pending ≡ Some next → Comes q next
  ended_comes q next id task outcome None pending below b begun there is = absurd (cc is)
  ended_comes q next id task outcome (Some row) None below b begun there is = absurd (cc is)
  ended_comes q next id task outcome (Some row) (Some activity) below b begun there is =
      let here = b.rows.kept id row there in
      let less : Partition = record q { activities = at_number q.activities id task None } in
      let event = resulted task (answer_of outcome) in
      let after = stands_in count less id row.stamp (Some event) (goes_on_from (instance_in flows id row) event row.stamp []) in
      let one = activities_follows count p q id task None here b begun in
      then_is q after next (follows_then count p q less after one (event_comes less id row row.stamp event below here one.belongs one.begun there (b.stamps.rows id row there))) (some_same is)

  -- ---- deliveries

  answered_comes : (q : Partition) (to : Id) (number : ℕ) (answer : Answer) (request : Option Message) → home count to ≡ p → Belongs count p q → 0 < q.position → Comes q (answered_in q to number answer request)
  answered_comes q to number answer None here b begun = same q b begun
  answered_comes q to number answer (Some message) here b begun = answers_follows count p q to number (Some answer) here b begun

  client_comes : (q : Partition) (to : Id) (body : Body) → home count to ≡ p → Belongs count p q → 0 < q.position → Comes q (client_received q to body)
  client_comes q to (result (to_request number) answer) here b begun = answered_comes q to number answer (q.taken to number) here b begun
  client_comes q to (result to_nobody answer) here b begun = same q b begun
  client_comes q to (result (to_task task) answer) here b begun = same q b begun
  client_comes q to (start argument reply) here b begun = same q b begun
  client_comes q to (raise event value number) here b begun = same q b begun
  client_comes q to (query number) here b begun = same q b begun
  client_comes q to (wait number) here b begun = same q b begun
  client_comes q to (operate operation argument reply) here b begun = same q b begun
  client_comes q to (lock id task set index) here b begun = same q b begun
  client_comes q to (granted task) here b begun = same q b begun
  client_comes q to release here b begun = same q b begun

  entity_comes : (q next : Partition) (class : List ℕ) (from to : Id) (stamp : ℕ) (body : Body) (e : Entity) → p < count → home count to ≡ p → Belongs count p q → 0 < q.position → stamp ≤ q.stamp
      → entity_received flows count q class from to stamp body e ≡ Some next → Comes q next
  entity_comes q next class from to stamp body e below here b begun low is =
      let was : Entity = record e { last = stamp } in
      let d = deliver_to flows was class from to body in
      let noted : Partition = record q { entities = at_id q.entities to (Some d.entity) } in
      let after = post_all count noted d.sent in
      let last_is = entity_last flows was class from to body in
      let one = entity_follows count p q to d.entity here b begun (omega (arith, last_is, low)) in
      let two = post_all_follows count p noted to d.sent (λ other. home_below count p other below) here (entity_from flows was class from to body) one.belongs one.begun in
      then_is q after next (follows_then count p q noted after one two) (passed (takes e.holder from && nat_le e.last stamp) after next is).1

  received_comes : (q next : Partition) (from to : Id) (stamp : ℕ) (body : Body) → p < count → home count to ≡ p → Belongs count p q → 0 < q.position → stamp ≤ q.stamp
      → received_in flows count q from to stamp body ≡ Some next → Comes q next
  received_comes q next from (orchestration flow key) stamp body below here b begun low is =
      let to = orchestration flow key in
      let e = to_instance flows (instance_at flows q to) from to stamp body in
      let event = event_of flows (instance_at flows q to) from to body in
      let after = stands_in count q to stamp event e in
      then_is q after next (stands_follows count p q to stamp event e (λ other. home_below count p other below) here (instance_suits flows to (q.instances to) from stamp body).sent b begun low) (passed (nat_le (last_in (q.instances to)) stamp) after next is).1
  received_comes q next from (entity class key) stamp body below here b begun low is =
      entity_comes q next class from (entity class key) stamp body (entity_of flows class (q.entities (entity class key))) below here b begun low is
  received_comes q next from (client name) stamp body below here b begun low is = then_is q (client_received q (client name) body) next (client_comes q (client name) body here b begun) (some_same is)

  pub delivered_comes : (q next : Partition) (from to : Id) (stamp : ℕ) (found : Option Body) → first_in q.queue from to ≡ found → p < count → Belongs count p q → 0 < q.position → delivered_in flows count q from to stamp found ≡ Some next → Comes q next
  delivered_comes q next from to stamp None found below b begun is = absurd (cc is)
  delivered_comes q next from to stamp (Some body) found below b begun is =
      let here = first_lives count p q.queue from to body b.queue found in
      let left : Partition = record q { queue = without_first q.queue from to } in
      let later = raised_to stamp left in
      let one = queue_follows count p q (without_first q.queue from to) b begun (λ message of_it. b.queue message (without_contained count p q.queue from to message of_it)) in
      let two = raised_follows count p left stamp one.belongs one.begun in
      follows_then count p q left next one (follows_then count p left later next two.0 (received_comes later next from to stamp body below here two.0.belongs two.0.begun two.1 is))

  -- ---- items

  -- what a label makes of a state comes from it
  pub label_comes : (item : Item) (q next : Partition) → is_some (label_in item) ≡ true → p < count → Belongs count p q → 0 < q.position → accepted flows count q item ≡ Some next → Comes q next
  label_comes (took message) q next some below b begun is =
      let number = number_in message.body in
      let it = passes (home count message.from == q.number && is_request message.from number message) (taken_in count q message (q.taken message.from number)) next is in
      let here = eqb-true (home count message.from) q.number (and_parts (home count message.from == q.number) (is_request message.from number message) it.0).0 in
      taken_comes q next message (q.taken message.from number) below (here ∙ b.number) b begun it.1
  label_comes (ran from to stamp) q next some below b begun is = delivered_comes q next from to stamp (first_in q.queue from to) refl below b begun is
  label_comes (ended id task outcome) q next some below b begun is = ended_comes q next id task outcome (q.instances id) (q.activities id task) below b begun refl is
  label_comes (fired id task stamp) q next some below b begun is = fired_comes q next id task stamp (q.instances id) (q.timers id task) below b begun refl is
  label_comes (got source number message) q next some below b begun is = absurd (cc some)
  label_comes (trim reader number) q next some below b begun is = absurd (cc some)

  -- what an item makes of a state belongs where the state does
  pub item_belongs : (item : Item) (q next : Partition) → p < count → Belongs count p q → 0 < q.position → accepted flows count q item ≡ Some next → Belongs count p next
  item_belongs (took message) q next below b begun is = (label_comes (took message) q next refl below b begun is).belongs
  item_belongs (ran from to stamp) q next below b begun is = (label_comes (ran from to stamp) q next refl below b begun is).belongs
  item_belongs (ended id task outcome) q next below b begun is = (label_comes (ended id task outcome) q next refl below b begun is).belongs
  item_belongs (fired id task stamp) q next below b begun is = (label_comes (fired id task stamp) q next refl below b begun is).belongs
  item_belongs (got source number message) q next below b begun is = got_belongs count p q next source number message b begun is
  item_belongs (trim reader number) q next below b begun is = trim_belongs count p q next reader number b is

-- ---- all states, with one of them replaced

-- a reader of a stream, by the stream and by how far it was taken in
abbrev Reads : Outbox → ℕ → Type 0
Reads box next = (box.first ≤ next) × (next ≤ box.first + length box.messages)

module _ (flows : Flows) (count : ℕ) (parts : ℕ → Partition) (p : ℕ) where
  with_shown : (next : Partition) → AreShown count parts → Belongs count p next
      → ((target : ℕ) → target < count → Reads (next.outboxes target) ((parts target).inboxes p).next)
      → ((source : ℕ) → source < count → Reads ((parts source).outboxes p) (next.inboxes source).next)
      → AreShown count (with_part parts p next)
  with_shown next shows belongs sends reads = record {
    each = λ place below. each place below (p == place) refl;
    readers = λ source target low below. let both = reader source target low below (p == source) (p == target) refl refl in record { from_first = both.0; to_end = both.1 };
  }
    where
      each : (place : ℕ) → place < count → (test : Bool) → (p == place) ≡ test → Belongs count place (cond test next (parts place))
      each place below true is = subst (λ (n : ℕ). Belongs count n next) (eqb-true p place is) belongs
      each place below false is = shows.each place below

      nothing_out : IsOther count p p ⊎ (next.outboxes p ≡ record { first = 0; messages = [] }) → next.outboxes p ≡ record { first = 0; messages = [] }
      nothing_out (inl other) = absurd (other.apart refl)
      nothing_out (inr is) = is

      nothing_in : IsOther count p p ⊎ ((next.inboxes p).next ≡ 0) → (next.inboxes p).next ≡ 0
      nothing_in (inl other) = absurd (other.apart refl)
      nothing_in (inr is) = is

      self : Reads (next.outboxes p) (next.inboxes p).next
      self = let read = nothing_in (belongs.inboxes.others p) in subst (λ (box : Outbox). Reads box (next.inboxes p).next) (sym (nothing_out (belongs.outboxes.others p))) (omega arith, omega (arith, read))

      reader : (source target : ℕ) → source < count → target < count → (here there : Bool) → (p == source) ≡ here → (p == target) ≡ there
          → Reads ((cond here next (parts source)).outboxes target) ((cond there next (parts target)).inboxes source).next
      reader source target low below true true is also =
          subst (λ (s : ℕ). Reads (next.outboxes target) (next.inboxes s).next) (eqb-true p source is) (subst (λ (t : ℕ). Reads (next.outboxes t) (next.inboxes p).next) (eqb-true p target also) self)
      reader source target low below true false is also = subst (λ (s : ℕ). Reads (next.outboxes target) ((parts target).inboxes s).next) (eqb-true p source is) (sends target below)
      reader source target low below false true is also = subst (λ (t : ℕ). Reads ((parts source).outboxes t) (next.inboxes source).next) (eqb-true p target also) (reads source low)
      reader source target low below false false is also = let is_reader = shows.readers source target low below in (is_reader.from_first, is_reader.to_end)

  -- a state that comes from the one before, whose streams got no shorter
  pub comes_shown : (next : Partition) → AreShown count parts → p < count → Follows count p (parts p) next → AreShown count (with_part parts p next)
  comes_shown next shows below comes =
      with_shown next shows comes.belongs
      (λ target low. let is = shows.readers p target below low in let first = comes.first target in let longer = comes.longer target in (omega (arith, first, is.from_first), omega (arith, first, longer, is.to_end)))
      (λ source low. let is = shows.readers source p low below in let read = comes.read source in (omega (arith, read, is.from_first), omega (arith, read, is.to_end)))

  -- ---- streams

  -- the stream goes on behind a message that it has
  has_more : (stream later : List Posted) (first number : ℕ) (posted : Posted) → first ≤ number → drop (number - first) stream ≡ posted ∷ later → number + 1 ≤ first + length stream
  has_more stream later first number posted begun is = let left = ap length is in omega (arith, begun, left, length-drop (number - first) stream)

  pub got_shown : (next : Partition) (source : Identity) (number : ℕ) (message : Message) → AreShown count parts → p < count → 0 < (parts p).position → IsStreamed parts source p number message
      → accepted flows count (parts p) (got source number message) ≡ Some next → AreShown count (with_part parts p next)
  got_shown next source number message shows below begun streamed is =
      subst (λ (s : Partition). AreShown count (with_part parts p s)) it.1
      (with_shown after shows (got_belongs count p q after source number message b begun (is ∙ sym (ap Some it.1)))
      (λ target low. let r = shows.readers p target below low in (r.from_first, r.to_end))
      (λ other low. reads other low (source.partition == other) refl))
    where
      q : Partition
      q = parts p

      b : Belongs count p q
      b = shows.each p below

      box : Inbox
      box = record { next = number + 1; reader = entry_of q }

      after : Partition
      after = record q { queue = q.queue ++ message ∷ []; inboxes = with_inbox q.inboxes source.partition box }

      away : Bool
      away = source.partition == q.number

      low_source : Bool
      low_source = nat_lt source.partition count

      in_turn : Bool
      in_turn = number == (q.inboxes source.partition).next

      lives : Bool
      lives = home count message.to == q.number

      it : ((not away && (low_source && (in_turn && lives))) ≡ true) × (after ≡ next)
      it = passed (not away && (low_source && (in_turn && lives))) after next is

      one : (not away ≡ true) × ((low_source && (in_turn && lives)) ≡ true)
      one = and_parts (not away) (low_source && (in_turn && lives)) it.0

      two : (low_source ≡ true) × ((in_turn && lives) ≡ true)
      two = and_parts low_source (in_turn && lives) one.1

      reads : (other : ℕ) → other < count → (test : Bool) → (source.partition == other) ≡ test → Reads ((parts other).outboxes p) (cond test box (q.inboxes other)).next
      reads other low true same =
          let stream = (parts source.partition).outboxes p in
          let more = has_more stream.messages streamed.later stream.first number (record { entry = source; message = message }) streamed.begun streamed.stands in
          subst (λ (n : ℕ). Reads ((parts n).outboxes p) (number + 1)) (eqb-true source.partition other same) (omega (arith, streamed.begun), more)
      reads other low false apart = let r = shows.readers other p low below in (r.from_first, r.to_end)

  pub trim_shown : (next : Partition) (reader : Identity) (number : ℕ) → AreShown count parts → p < count → number ≤ ((parts reader.partition).inboxes p).next
      → accepted flows count (parts p) (trim reader number) ≡ Some next → AreShown count (with_part parts p next)
  trim_shown next reader number shows below read is =
      subst (λ (s : Partition). AreShown count (with_part parts p s)) it.1
      (with_shown after shows (trim_belongs count p q after reader number b (is ∙ sym (ap Some it.1)))
      (λ other low. reads other low (target == other) refl)
      (λ source low. let r = shows.readers source p low below in (r.from_first, r.to_end)))
    where
      q : Partition
      q = parts p

      b : Belongs count p q
      b = shows.each p below

      target : ℕ
      target = reader.partition

      after : Partition
      after = record q { outboxes = with_first q.outboxes target number }

      away : Bool
      away = target == q.number

      low_target : Bool
      low_target = nat_lt target count

      enough : Bool
      enough = nat_le number ((q.outboxes target).first + length (q.outboxes target).messages)

      it : ((not away && (low_target && enough)) ≡ true) × (after ≡ next)
      it = passed (not away && (low_target && enough)) after next is

      one : (not away ≡ true) × ((low_target && enough) ≡ true)
      one = and_parts (not away) (low_target && enough) it.0

      two : (low_target ≡ true) × (enough ≡ true)
      two = and_parts low_target enough one.1

      box_of : ℕ → Bool → Outbox
      box_of other test = cond test (begins_at number (q.outboxes other)) (q.outboxes other)

      reads : (other : ℕ) → other < count → (test : Bool) → (target == other) ≡ test → Reads (box_of other test) ((parts other).inboxes p).next
      reads other low false apart = let r = shows.readers p other below low in (r.from_first, r.to_end)
      reads other low true same =
          subst (λ (t : ℕ). Reads (begins_at number (q.outboxes t)) ((parts t).inboxes p).next) (eqb-true target other same)
          (by (nat_le number (q.outboxes target).first) refl)
        where
          stream : Outbox
          stream = q.outboxes target

          by : (begun : Bool) → nat_le number stream.first ≡ begun → Reads (cond begun stream (record { first = number; messages = drop (number - stream.first) stream.messages })) ((parts target).inboxes p).next
          by true begun = let r = shows.readers p target below (ltb-true target count two.0) in (r.from_first, r.to_end)
          by false begun =
              let r = shows.readers p target below (ltb-true target count two.0) in
              let high : stream.first < number = leb-false number stream.first begun in
              let end : number ≤ stream.first + length stream.messages = leb-true number (stream.first + length stream.messages) two.1 in
              (read, omega (arith, high, end, r.to_end, length-drop (number - stream.first) stream.messages))

  -- ---- items

  -- what a label makes of a state comes from it
  label_follows : (item : Item) (next : Partition) → is_some (label_in item) ≡ true → AreShown count parts → p < count → 0 < (parts p).position → accepted flows count (parts p) item ≡ Some next → Follows count p (parts p) next
  label_follows item next some shows below begun is = label_comes flows count p item (parts p) next some below (shows.each p below) begun is

  label_keeps : (item : Item) (next : Partition) → is_some (label_in item) ≡ true → AreShown count parts → p < count → 0 < (parts p).position → accepted flows count (parts p) item ≡ Some next → AreShown count (with_part parts p next)
  label_keeps item next some shows below begun is = comes_shown next shows below (label_follows item next some shows below begun is)

  pub item_keeps : (item : Item) (next : Partition) → AreShown count parts → p < count → 0 < (parts p).position → IsOfStreams parts p item → accepted flows count (parts p) item ≡ Some next → AreShown count (with_part parts p next)
  item_keeps (took message) next shows below begun given is = label_keeps (took message) next refl shows below begun is
  item_keeps (ran from to stamp) next shows below begun given is = label_keeps (ran from to stamp) next refl shows below begun is
  item_keeps (ended id task outcome) next shows below begun given is = label_keeps (ended id task outcome) next refl shows below begun is
  item_keeps (fired id task stamp) next shows below begun given is = label_keeps (fired id task stamp) next refl shows below begun is
  item_keeps (got source number message) next shows below begun given is = got_shown next source number message shows below begun given is
  item_keeps (trim reader number) next shows below begun given is = trim_shown next reader number shows below given is

  label_stands : (item : Item) (next : Partition) → is_some (label_in item) ≡ true → AreShown count parts → p < count → 0 < (parts p).position → accepted flows count (parts p) item ≡ Some next → IsSameEntry (parts p) next
  label_stands item next some shows below begun is = let comes = label_follows item next some shows below begun is in record { number = comes.belongs.number ∙ sym (shows.each p below).number; position = comes.position; incarnation = comes.incarnation }

  pub item_stands : (item : Item) (next : Partition) → AreShown count parts → p < count → 0 < (parts p).position → accepted flows count (parts p) item ≡ Some next → IsSameEntry (parts p) next
  item_stands (took message) next shows below begun is = label_stands (took message) next refl shows below begun is
  item_stands (ran from to stamp) next shows below begun is = label_stands (ran from to stamp) next refl shows below begun is
  item_stands (ended id task outcome) next shows below begun is = label_stands (ended id task outcome) next refl shows below begun is
  item_stands (fired id task stamp) next shows below begun is = label_stands (fired id task stamp) next refl shows below begun is
  item_stands (got source number message) next shows below begun is =
      let q = parts p in
      let after : Partition = record q { queue = q.queue ++ message ∷ []; inboxes = with_inbox q.inboxes source.partition (record { next = number + 1; reader = entry_of q }) } in
      subst (IsSameEntry q) (passed (not (source.partition == q.number) && (nat_lt source.partition count && (number == (q.inboxes source.partition).next && home count message.to == q.number))) after next is).1 (record { number = refl; position = refl; incarnation = refl })
  item_stands (trim reader number) next shows below begun is =
      let q = parts p in
      let after : Partition = record q { outboxes = with_first q.outboxes reader.partition number } in
      subst (IsSameEntry q) (passed (not (reader.partition == q.number) && (nat_lt reader.partition count && nat_le number ((q.outboxes reader.partition).first + length (q.outboxes reader.partition).messages))) after next is).1 (record { number = refl; position = refl; incarnation = refl })

  -- ---- where items happen

  here_is : (id other : Id) → Some other ≡ Some id → home count other ≡ p → home count id ≡ p
  here_is id other is here = ap (home count) (sym (some_same is)) ∙ here

  there_is : {X : Type 0} (row : Option Row) (other : Option X) (f : Option Row → Option X → Option Partition) (next : Partition) → ((x : Option X) → f None x ≡ None) → f row other ≡ Some next → (one : Row) × (row ≡ Some one)
  there_is None other f next none is = let wrong : None ≡ Some next = sym (none other) ∙ is in absurd (cc wrong)
  there_is (Some one) other f next none is = (one, refl)

  came_in : (found : Option Body) (f : Option Body → Option Partition) (next : Partition) → f None ≡ None → f found ≡ Some next → (body : Body) × (found ≡ Some body)
  came_in None f next none is = let wrong : None ≡ Some next = sym none ∙ is in absurd (cc wrong)
  came_in (Some body) f next none is = (body, refl)

  pub item_lives : (item : Item) (next : Partition) (id : Id) → AreShown count parts → p < count → happens_at item ≡ Some id → accepted flows count (parts p) item ≡ Some next → home count id ≡ p
  item_lives (took message) next id shows below at is =
      let q = parts p in
      let number = number_in message.body in
      let it = passes (home count message.from == q.number && is_request message.from number message) (taken_in count q message (q.taken message.from number)) next is in
      here_is id message.from at (eqb-true (home count message.from) q.number (and_parts (home count message.from == q.number) (is_request message.from number message) it.0).0 ∙ (shows.each p below).number)
  item_lives (ran from to stamp) next id shows below at is =
      let q = parts p in
      let found = came_in (first_in q.queue from to) (delivered_in flows count q from to stamp) next refl is in
      here_is id to at (first_lives count p q.queue from to found.0 (shows.each p below).queue found.1)
  item_lives (ended other task outcome) next id shows below at is =
      let q = parts p in
      let row = there_is (q.instances other) (q.activities other task) (λ found pending. ended_in flows count q other task outcome (option_map (instance_in flows other) found) pending) next (λ x. refl) is in
      here_is id other at ((shows.each p below).rows.kept other row.0 row.1)
  item_lives (fired other task stamp) next id shows below at is =
      let q = parts p in
      let row = there_is (q.instances other) (q.timers other task) (λ found timer. fired_in flows count q other task stamp (option_map (instance_in flows other) found) timer) next (λ x. refl) is in
      here_is id other at ((shows.each p below).rows.kept other row.0 row.1)
  item_lives (got source number message) next id shows below at is = absurd (cc at)
  item_lives (trim reader number) next id shows below at is = absurd (cc at)

  -- ---- entries

  pub enter_keeps : (incarnation : ℕ) → AreShown count parts → p < count → (parts p).incarnation ≤ incarnation → AreShown count (with_part parts p (enter incarnation (parts p)))
  enter_keeps incarnation shows below young =
      with_shown (enter incarnation (parts p)) shows (enter_belongs count p (parts p) incarnation (shows.each p below) young)
      (λ target low. let r = shows.readers p target below low in (r.from_first, r.to_end))
      (λ source low. let r = shows.readers source p low below in (r.from_first, r.to_end))

  pub enter_silent : (incarnation : ℕ) → shown flows count (with_part parts p (enter incarnation (parts p))) ≡ shown flows count parts
  enter_silent incarnation = silent flows count parts p (enter incarnation (parts p)) refl

-- ---- the beginning

pub fresh_belongs : (count place : ℕ) → Belongs count place (fresh place)
fresh_belongs count place = record {
  number = refl;
  rows = record { requests = λ id n x is. absurd (cc is); answered = λ id n x is. absurd (cc is); kept = λ id x is. absurd (cc is); reached = λ id x is. absurd (cc is); pending = λ id n x is. absurd (cc is); due = λ id n x is. absurd (cc is) };
  queue = λ message of_it. nothing_in message of_it;
  outboxes = record {
    others = λ target. inr refl;
    senders = λ target posted of_it. nothing_in posted of_it;
    receivers = λ target posted of_it. nothing_in posted of_it;
    earlier = λ target posted of_it. nothing_in posted of_it;
  };
  inboxes = record { others = λ source. inr refl; earlier = λ source some. absurd (omega (arith, some)) };
  stamps = record { rows = λ id row is. absurd (cc is); events = λ id row is. absurd (cc is); lasts = λ id e is. absurd (cc is) };
}
  where
    nothing_in : {X Y : Type 0} (x : X) → Contains [] x → Y
    nothing_in x of_it = absurd (let none : of_it.0 < 0 = of_it.1 in omega (arith, none))

pub fresh_shown : (count : ℕ) → AreShown count fresh
fresh_shown count = record { each = λ place below. fresh_belongs count place; readers = λ source target low below. record { from_first = omega arith; to_end = omega arith } }

pub fresh_empty : (flows : Flows) (count : ℕ) → shown flows count fresh ≡ empty
fresh_empty flows count = refl
