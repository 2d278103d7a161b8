-- The world that partitions show where one of them is in a state that is looked at.
use Rattle.std.proofs.Common.{◌≡◌, ◌≤◌, ◌+◌, ◌-◌, ◌==◌, ◌&&◌, ℕ, zero, suc, length, drop, Bool, true, false, cond, List, [], ◌∷◌, ◌++◌, Option, Some, None, refl, sym, ap, subst, ◌∙◌, arith, eq-eqb, length-append}
use Rattle.std.specs.Prelude.{option_map}
use Rattle.std.proofs.lemmas.Bool.{eqb-true, and_parts}
use Rattle.std.proofs.lemmas.List.{append-nil, append_assoc, drop-append-le}
use Rattle.dura_value.specs.Ids.{Id, home, id_eq}
use Rattle.dura_value.specs.Messages.{Answer, Message}
use Rattle.flow_syntax.specs.Syntax.{Flows}
use Rattle.flow_syntax.specs.Machine.{Asked, an_activity, a_timer, Event}
use Rattle.flow_syntax.specs.Entity.{Entity}
use Rattle.dura_model.specs.World.{World, Orchestration, Activity, at_link}
use Rattle.dura_value.specs.ById.{at_id, at_number, cleared}
use Rattle.dura_model.specs.Deliveries.{Effect}
use Rattle.dura_model.specs.Steps.{sent, asked, given_up, stands_as}
use Rattle.dura_model.specs.Partition.{Row, Inbox, Partition, instance_in, instance_at, post, post_all, asked_in, given_up_in, row_after, stands_in, entry_of, link_in, messages_in, under_way, shown, with_part}
use Rattle.log_items.specs.Streams.{Outbox, with_posted}
use Rattle.dura_value.proofs.Ids.{id_same, id_self, and_true}
use Rattle.dura_model.proofs.Sending.{AllFrom}
use Rattle.dura_value.specs.Items.{Posted}

pub worlds_same : (w v : World) → w.orchestrations ≡ v.orchestrations → w.entities ≡ v.entities → w.links ≡ v.links → w.activities ≡ v.activities → w.timers ≡ v.timers → w.taken ≡ v.taken → w.answers ≡ v.answers → w ≡ v
worlds_same w v a b c d e f g = λ i. record { orchestrations = a i; entities = b i; links = c i; activities = d i; timers = e i; taken = f i; answers = g i }

push : {X Y : Type 0} (g : X → Y) (test : Bool) (x y : X) → g (cond test x y) ≡ cond test (g x) (g y)
push g true x y = refl
push g false x y = refl

-- a write where something stands, seen from elsewhere too
written : {X : Type 0} (here test : Bool) (x y z : X) → (test ≡ true → here ≡ true) → cond here (cond test x y) z ≡ cond test x (cond here y z)
written true true x y z lives = refl
written true false x y z lives = refl
written false true x y z lives = let wrong = lives refl in absurd (cc wrong)
written false false x y z lives = refl

-- a test of numbers, the other way round
pub turned : (a b : ℕ) (test : Bool) → (a == b) ≡ test → (b == a) ≡ test
turned a b true is = eq-eqb b a (sym (eqb-true a b is))
turned a b false is = by (b == a) refl
  where
    by : (other : Bool) → (b == a) ≡ other → (b == a) ≡ false
    by true also = let same = eqb-true b a also in let wrong : true ≡ false = sym (eq-eqb a b (sym same)) ∙ is in absurd (cc wrong)
    by false also = also

-- ---- links

id_swap : (a b : Id) → id_eq a b ≡ id_eq b a
id_swap a b = by (id_eq a b) (id_eq b a) refl refl
  where
    turned : (x y : Id) → id_eq x y ≡ true → id_eq y x ≡ true
    turned x y is = subst (λ (z : Id). id_eq z x ≡ true) (id_same x y is) (id_self x)

    by : (one other : Bool) → id_eq a b ≡ one → id_eq b a ≡ other → id_eq a b ≡ id_eq b a
    by true other is also = is ∙ sym (turned a b is)
    by false true is also = turned b a also ∙ sym also
    by false false is also = is ∙ sym also

pub link_both : (one other : List Message) (from to : Id) → link_in (one ++ other) from to ≡ link_in one from to ++ link_in other from to
link_both [] other from to = refl
link_both (message ∷ one) other from to = by (id_eq from message.from && id_eq to message.to) (link_both one other from to)
  where
    by : (test : Bool) → link_in (one ++ other) from to ≡ link_in one from to ++ link_in other from to
        → cond test (message ∷ link_in (one ++ other) from to) (link_in (one ++ other) from to) ≡ cond test (message ∷ link_in one from to) (link_in one from to) ++ link_in other from to
    by true rest = ap (λ (l : List Message). message ∷ l) rest
    by false rest = rest

-- a message is of this link
abbrev pub is_of : Id → Id → Message → Bool
is_of from to message = id_eq from message.from && id_eq to message.to

link_one : (message : Message) (from to : Id) (test : Bool) → is_of from to message ≡ test → link_in (message ∷ []) from to ≡ cond test (message ∷ []) []
link_one message from to test is = ap (λ (b : Bool). cond b (message ∷ []) []) is

pub link_own : (queue : List Message) (message : Message) (from to : Id) → is_of from to message ≡ true → link_in (queue ++ message ∷ []) from to ≡ link_in queue from to ++ message ∷ []
link_own queue message from to is = link_both queue (message ∷ []) from to ∙ ap (λ (l : List Message). link_in queue from to ++ l) (link_one message from to true is)

pub link_other : (queue : List Message) (message : Message) (from to : Id) → is_of from to message ≡ false → link_in (queue ++ message ∷ []) from to ≡ link_in queue from to
link_other queue message from to is =
    link_both queue (message ∷ []) from to ∙ ap (λ (l : List Message). link_in queue from to ++ l) (link_one message from to false is) ∙ append-nil (link_in queue from to)

messages_both : (one other : List Posted) → messages_in (one ++ other) ≡ messages_in one ++ messages_in other
messages_both [] other = refl
messages_both (posted ∷ one) other = ap (λ (l : List Message). posted.message ∷ l) (messages_both one other)

-- one more message in a stream
stream_own : (queue : List Message) (k : ℕ) (stream : List Posted) (posted : Posted) (from to : Id) → is_of from to posted.message ≡ true → k ≤ length stream
    → link_in (queue ++ messages_in (drop k (stream ++ posted ∷ []))) from to ≡ link_in (queue ++ messages_in (drop k stream)) from to ++ posted.message ∷ []
stream_own queue k stream posted from to is within =
    ap (λ (l : List Posted). link_in (queue ++ messages_in l) from to) (drop-append-le k stream (posted ∷ []) within)
    ∙ ap (λ (l : List Message). link_in (queue ++ l) from to) (messages_both (drop k stream) (posted ∷ []))
    ∙ ap (λ (l : List Message). link_in l from to) (sym (append_assoc queue (messages_in (drop k stream)) (posted.message ∷ [])))
    ∙ link_own (queue ++ messages_in (drop k stream)) posted.message from to is

pub drop_nothing : {X : Type 0} (k : ℕ) → drop {A = X} k [] ≡ []
drop_nothing zero = refl
drop_nothing (suc k) = refl

stream_end : (k : ℕ) (stream : List Posted) (posted : Posted) (from to : Id) → is_of from to posted.message ≡ false
    → link_in (messages_in (drop k (stream ++ posted ∷ []))) from to ≡ link_in (messages_in (drop k stream)) from to
stream_end zero stream posted from to is = ap (λ (l : List Message). link_in l from to) (messages_both stream (posted ∷ [])) ∙ link_other (messages_in stream) posted.message from to is
stream_end (suc k) [] posted from to is = ap (λ (l : List Posted). link_in (messages_in l) from to) (drop_nothing k)
stream_end (suc k) (first ∷ stream) posted from to is = stream_end k stream posted from to is

stream_other : (queue : List Message) (k : ℕ) (stream : List Posted) (posted : Posted) (from to : Id) → is_of from to posted.message ≡ false
    → link_in (queue ++ messages_in (drop k (stream ++ posted ∷ []))) from to ≡ link_in (queue ++ messages_in (drop k stream)) from to
stream_other queue k stream posted from to is =
    link_both queue (messages_in (drop k (stream ++ posted ∷ []))) from to
    ∙ ap (λ (l : List Message). link_in queue from to ++ l) (stream_end k stream posted from to is)
    ∙ sym (link_both queue (messages_in (drop k stream)) from to)

-- ---- the merged world

module _ (flows : Flows) (count : ℕ) (parts : ℕ → Partition) (p : ℕ) where
  abbrev pub queue_at : List Message → ℕ → List Message
  queue_at queue place = cond (p == place) queue (parts place).queue

  abbrev pub inboxes_at : (ℕ → Inbox) → ℕ → ℕ → Inbox
  inboxes_at inboxes place = cond (p == place) inboxes (parts place).inboxes

  abbrev pub outboxes_at : (ℕ → Outbox) → ℕ → ℕ → Outbox
  outboxes_at outboxes place = cond (p == place) outboxes (parts place).outboxes

  -- what a stream holds that wasn't taken in
  abbrev pub behind : (ℕ → Inbox) → (ℕ → Outbox) → (source target : ℕ) → List Message
  behind inboxes outboxes source target = messages_in (drop ((inboxes_at inboxes target source).next - (outboxes_at outboxes source target).first) (outboxes_at outboxes source target).messages)

  -- what is under way from one partition to another
  abbrev pub way : List Message → (ℕ → Inbox) → (ℕ → Outbox) → (source target : ℕ) → List Message
  way queue inboxes outboxes source target = queue_at queue target ++ behind inboxes outboxes source target

  abbrev pub merged : Partition → World
  merged q = record {
    orchestrations = λ id. cond (p == home count id) (instance_at flows q id) (instance_at flows (parts (home count id)) id);
    entities = λ id. cond (p == home count id) (q.entities id) ((parts (home count id)).entities id);
    links = λ from to. link_in (way q.queue q.inboxes q.outboxes (home count from) (home count to)) from to;
    activities = λ id task. cond (p == home count id) (q.activities id task) ((parts (home count id)).activities id task);
    timers = λ id task. cond (p == home count id) (q.timers id task) ((parts (home count id)).timers id task);
    taken = λ id number. cond (p == home count id) (q.taken id number) ((parts (home count id)).taken id number);
    answers = λ id number. cond (p == home count id) (q.answers id number) ((parts (home count id)).answers id number);
  }

  way_merged : (q : Partition) (source target : ℕ) → under_way (with_part parts p q) source target ≡ way q.queue q.inboxes q.outboxes source target
  way_merged q source target =
      let queue = push (λ (s : Partition). s.queue) (p == target) q (parts target) in
      let inboxes = push (λ (s : Partition). s.inboxes) (p == target) q (parts target) in
      let outboxes = push (λ (s : Partition). s.outboxes) (p == source) q (parts source) in
      λ i. queue i ++ messages_in (drop ((inboxes i source).next - (outboxes i target).first) (outboxes i target).messages)

  pub shown_merged : (q : Partition) → shown flows count (with_part parts p q) ≡ merged q
  shown_merged q =
      worlds_same (shown flows count (with_part parts p q)) (merged q)
      (λ i id. push (λ (s : Partition). instance_at flows s id) (p == home count id) q (parts (home count id)) i)
      (λ i id. push (λ (s : Partition). s.entities id) (p == home count id) q (parts (home count id)) i)
      (λ i from to. link_in (way_merged q (home count from) (home count to) i) from to)
      (λ i id task. push (λ (s : Partition). s.activities id task) (p == home count id) q (parts (home count id)) i)
      (λ i id task. push (λ (s : Partition). s.timers id task) (p == home count id) q (parts (home count id)) i)
      (λ i id number. push (λ (s : Partition). s.taken id number) (p == home count id) q (parts (home count id)) i)
      (λ i id number. push (λ (s : Partition). s.answers id number) (p == home count id) q (parts (home count id)) i)

  itself : with_part parts p (parts p) ≡ parts
  itself = λ i other. by other (p == other) refl i
    where
      by : (other : ℕ) (test : Bool) → (p == other) ≡ test → cond test (parts p) (parts other) ≡ parts other
      by other true is = ap parts (eqb-true p other is)
      by other false is = refl

  pub merged_shown : merged (parts p) ≡ shown flows count parts
  merged_shown = sym (shown_merged (parts p)) ∙ ap (shown flows count) itself

  -- ---- writes

  lives : (id other : Id) → home count id ≡ p → id_eq id other ≡ true → (p == home count other) ≡ true
  lives id other here is = eq-eqb p (home count other) (sym here ∙ ap (home count) (id_same id other is))

  pub row_merged : (q : Partition) (id : Id) (row : Option Row) → home count id ≡ p
      → merged (record q { instances = at_id q.instances id row }) ≡ record (merged q) { orchestrations = at_id (merged q).orchestrations id (option_map (instance_in flows id) row) }
  row_merged q id row here = λ i. record (merged q) { orchestrations = λ other. by other (id_eq id other) refl i }
    where
      by : (other : Id) (test : Bool) → id_eq id other ≡ test
          → cond (p == home count other) (option_map (instance_in flows other) (cond test row (q.instances other))) (instance_at flows (parts (home count other)) other)
          ≡ cond test (option_map (instance_in flows id) row) (cond (p == home count other) (option_map (instance_in flows other) (q.instances other)) (instance_at flows (parts (home count other)) other))
      by other true is =
          ap (λ (b : Bool). cond b (option_map (instance_in flows other) row) (instance_at flows (parts (home count other)) other)) (lives id other here is)
          ∙ ap (λ (o : Id). option_map (instance_in flows o) row) (sym (id_same id other is))
      by other false is = refl

  id_written : {X : Type 0} (f g : Id → X) (id : Id) (x : X) → home count id ≡ p → (λ other. cond (p == home count other) (at_id f id x other) (g other)) ≡ at_id (λ other. cond (p == home count other) (f other) (g other)) id x
  id_written f g id x here = λ i other. written (p == home count other) (id_eq id other) x (f other) (g other) (lives id other here) i

  number_written : {X : Type 0} (f g : Id → ℕ → X) (id : Id) (number : ℕ) (x : X) → home count id ≡ p
      → (λ other n. cond (p == home count other) (at_number f id number x other n) (g other n)) ≡ at_number (λ other n. cond (p == home count other) (f other n) (g other n)) id number x
  number_written f g id number x here = λ i other n. written (p == home count other) (id_eq id other && number == n) x (f other n) (g other n) (λ both. lives id other here (and_parts (id_eq id other) (number == n) both).0) i

  cleared_written : {X : Type 0} (f g : Id → ℕ → Option X) (id : Id) → home count id ≡ p
      → (λ other n. cond (p == home count other) (cleared f id other n) (g other n)) ≡ cleared (λ other n. cond (p == home count other) (f other n) (g other n)) id
  cleared_written f g id here = λ i other n. written (p == home count other) (id_eq id other) None (f other n) (g other n) (lives id other here) i

  pub entity_merged : (q : Partition) (id : Id) (e : Option Entity) → home count id ≡ p → merged (record q { entities = at_id q.entities id e }) ≡ record (merged q) { entities = at_id (merged q).entities id e }
  entity_merged q id e here = λ i. record (merged q) { entities = id_written q.entities (λ other. (parts (home count other)).entities other) id e here i }

  pub activity_merged : (q : Partition) (id : Id) (task : ℕ) (activity : Option Activity) → home count id ≡ p → merged (record q { activities = at_number q.activities id task activity }) ≡ record (merged q) { activities = at_number (merged q).activities id task activity }
  activity_merged q id task activity here = λ i. record (merged q) { activities = number_written q.activities (λ other. (parts (home count other)).activities other) id task activity here i }

  pub timer_merged : (q : Partition) (id : Id) (task : ℕ) (due : Option ℕ) → home count id ≡ p → merged (record q { timers = at_number q.timers id task due }) ≡ record (merged q) { timers = at_number (merged q).timers id task due }
  timer_merged q id task due here = λ i. record (merged q) { timers = number_written q.timers (λ other. (parts (home count other)).timers other) id task due here i }

  pub taken_merged : (q : Partition) (id : Id) (number : ℕ) (message : Option Message) → home count id ≡ p → merged (record q { taken = at_number q.taken id number message }) ≡ record (merged q) { taken = at_number (merged q).taken id number message }
  taken_merged q id number message here = λ i. record (merged q) { taken = number_written q.taken (λ other. (parts (home count other)).taken other) id number message here i }

  pub answer_merged : (q : Partition) (id : Id) (number : ℕ) (answer : Option Answer) → home count id ≡ p → merged (record q { answers = at_number q.answers id number answer }) ≡ record (merged q) { answers = at_number (merged q).answers id number answer }
  answer_merged q id number answer here = λ i. record (merged q) { answers = number_written q.answers (λ other. (parts (home count other)).answers other) id number answer here i }

  given_up_merged : (q : Partition) (id : Id) (over : Bool) → home count id ≡ p → merged (given_up_in q id over) ≡ given_up (merged q) id over
  given_up_merged q id false here = refl
  given_up_merged q id true here = λ i. record (merged q) {
    activities = cleared_written q.activities (λ other. (parts (home count other)).activities other) id here i;
    timers = cleared_written q.timers (λ other. (parts (home count other)).timers other) id here i;
  }

  asked_merged : (q : Partition) (id : Id) (list : List Asked) → home count id ≡ p → merged (asked_in q id list) ≡ asked (merged q) id list
  asked_merged q id [] here = refl
  asked_merged q id (an_activity task name argument ∷ more) here =
      asked_merged (record q { activities = at_number q.activities id task (Some (record { name = name; argument = argument })) }) id more here
      ∙ ap (λ (w : World). asked w id more) (activity_merged q id task (Some (record { name = name; argument = argument })) here)
  asked_merged q id (a_timer task due ∷ more) here =
      asked_merged (record q { timers = at_number q.timers id task (Some due) }) id more here ∙ ap (λ (w : World). asked w id more) (timer_merged q id task (Some due) here)

  -- ---- messages that are sent

  -- what a state needs to send: its number, no stream to itself, and readers of its streams that are not past their ends
  pub record IsReady (q : Partition) : Type 0 where
    pub number : q.number ≡ p
    pub alone : (q.outboxes p).messages ≡ []
    pub readers : (to : Id) → (p == home count to) ≡ false → ((parts (home count to)).inboxes p).next ≤ (q.outboxes (home count to)).first + length (q.outboxes (home count to)).messages

  -- a link that a message is sent on
  sent_link : (q : Partition) (message : Message) → (after : Id → Id → List Message)
      → (after message.from message.to ≡ (merged q).links message.from message.to ++ message ∷ [])
      → ((from to : Id) → is_of from to message ≡ false → after from to ≡ (merged q).links from to)
      → after ≡ at_link (merged q).links message.from message.to ((merged q).links message.from message.to ++ message ∷ [])
  sent_link q message after own others = λ i from to. by from to (id_eq message.from from && id_eq message.to to) refl i
    where
      by : (from to : Id) (test : Bool) → id_eq message.from from && id_eq message.to to ≡ test
          → after from to ≡ cond test ((merged q).links message.from message.to ++ message ∷ []) ((merged q).links from to)
      by from to true is =
          let parts_are = and_parts (id_eq message.from from) (id_eq message.to to) is in
          ap (λ (x : Id). after x to) (sym (id_same message.from from parts_are.0)) ∙ ap (λ (y : Id). after message.from y) (sym (id_same message.to to parts_are.1)) ∙ own
      by from to false is =
          let swapped : is_of from to message ≡ false = ap (λ (b : Bool). b && id_eq to message.to) (id_swap from message.from) ∙ ap (λ (b : Bool). id_eq message.from from && b) (id_swap to message.to) ∙ is in
          others from to swapped

  own_is : (message : Message) → is_of message.from message.to message ≡ true
  own_is message = and_true (id_eq message.from message.from) (id_eq message.to message.to) (id_self message.from) (id_self message.to)

  -- a message to a receiver here
  queued_merged : (q : Partition) (message : Message) → IsReady q → home count message.from ≡ p → home count message.to ≡ p
      → merged (record q { queue = q.queue ++ message ∷ [] }) ≡ record (merged q) { links = at_link (merged q).links message.from message.to ((merged q).links message.from message.to ++ message ∷ []) }
  queued_merged q message ready sends receives = λ i. record (merged q) { links = sent_link q message (λ from to. link_in (way (q.queue ++ message ∷ []) q.inboxes q.outboxes (home count from) (home count to)) from to) own others i }
    where
      rest : (source target : ℕ) → List Message
      rest source target = behind q.inboxes q.outboxes source target

      none : (source target : ℕ) → source ≡ p → target ≡ p → (source_here : (p == source) ≡ true) → rest source target ≡ []
      none source target source_is target_is source_here =
          let empty : (outboxes_at q.outboxes source target).messages ≡ [] =
          ap (λ (b : Bool). (cond b q.outboxes (parts source).outboxes target).messages) source_here ∙ ap (λ (t : ℕ). (q.outboxes t).messages) target_is ∙ ready.alone in
          ap (λ (l : List Posted). messages_in (drop ((inboxes_at q.inboxes target source).next - (outboxes_at q.outboxes source target).first) l)) empty
          ∙ ap messages_in (drop_nothing ((inboxes_at q.inboxes target source).next - (outboxes_at q.outboxes source target).first))

      here : (p == home count message.to) ≡ true
      here = eq-eqb p (home count message.to) (sym receives)

      nothing : rest (home count message.from) (home count message.to) ≡ []
      nothing = none (home count message.from) (home count message.to) sends receives (eq-eqb p (home count message.from) (sym sends))

      own : link_in (way (q.queue ++ message ∷ []) q.inboxes q.outboxes (home count message.from) (home count message.to)) message.from message.to
          ≡ link_in (way q.queue q.inboxes q.outboxes (home count message.from) (home count message.to)) message.from message.to ++ message ∷ []
      own =
          ap (λ (l : List Message). link_in (queue_at (q.queue ++ message ∷ []) (home count message.to) ++ l) message.from message.to) nothing
          ∙ ap (λ (l : List Message). link_in l message.from message.to) (append-nil (queue_at (q.queue ++ message ∷ []) (home count message.to)))
          ∙ ap (λ (b : Bool). link_in (cond b (q.queue ++ message ∷ []) (parts (home count message.to)).queue) message.from message.to) here
          ∙ link_own q.queue message message.from message.to (own_is message)
          ∙ ap (λ (b : Bool). link_in (cond b q.queue (parts (home count message.to)).queue) message.from message.to ++ message ∷ []) (sym here)
          ∙ ap (λ (l : List Message). link_in l message.from message.to ++ message ∷ []) (sym (append-nil (queue_at q.queue (home count message.to))))
          ∙ ap (λ (l : List Message). link_in (queue_at q.queue (home count message.to) ++ l) message.from message.to ++ message ∷ []) (sym nothing)

      others : (from to : Id) → is_of from to message ≡ false → link_in (way (q.queue ++ message ∷ []) q.inboxes q.outboxes (home count from) (home count to)) from to ≡ (merged q).links from to
      others from to apart =
          link_both (queue_at (q.queue ++ message ∷ []) (home count to)) (rest (home count from) (home count to)) from to
          ∙ ap (λ (l : List Message). l ++ link_in (rest (home count from) (home count to)) from to) (by (p == home count to))
          ∙ sym (link_both (queue_at q.queue (home count to)) (rest (home count from) (home count to)) from to)
        where
          by : (test : Bool) → link_in (cond test (q.queue ++ message ∷ []) (parts (home count to)).queue) from to ≡ link_in (cond test q.queue (parts (home count to)).queue) from to
          by true = link_other q.queue message from to apart
          by false = refl

  -- a message to a receiver in another partition
  streamed_merged : (q : Partition) (posted : Posted) → IsReady q → home count posted.message.from ≡ p → (p == home count posted.message.to) ≡ false
      → merged (record q { outboxes = with_posted q.outboxes (home count posted.message.to) posted }) ≡ record (merged q) { links = at_link (merged q).links posted.message.from posted.message.to ((merged q).links posted.message.from posted.message.to ++ posted.message ∷ []) }
  streamed_merged q posted ready sends away = λ i. record (merged q) { links = sent_link q posted.message (λ from to. link_in (way q.queue q.inboxes (with_posted q.outboxes target posted) (home count from) (home count to)) from to) own others i }
    where
      target : ℕ
      target = home count posted.message.to

      source : ℕ
      source = home count posted.message.from

      -- a stream from here, by whether it is the one to the target
      way_of : (queue : List Message) (next : ℕ) (box : Outbox) → List Message
      way_of queue next box = queue ++ messages_in (drop (next - box.first) box.messages)

      longer : Outbox → Outbox
      longer box = record box { messages = box.messages ++ posted ∷ [] }

      next : ℕ
      next = (inboxes_at q.inboxes target source).next

      next_is : next ≡ ((parts target).inboxes p).next
      next_is = ap (λ (b : Bool). (cond b q.inboxes (parts target).inboxes source).next) away ∙ ap (λ (a : ℕ). ((parts target).inboxes a).next) sends

      here : (p == source) ≡ true
      here = eq-eqb p source (sym sends)

      own : link_in (way q.queue q.inboxes (with_posted q.outboxes target posted) source target) posted.message.from posted.message.to
          ≡ link_in (way q.queue q.inboxes q.outboxes source target) posted.message.from posted.message.to ++ posted.message ∷ []
      own =
          ap (λ (b : Bool). link_in (way_of (queue_at q.queue target) next (cond b (with_posted q.outboxes target posted) (parts source).outboxes target)) posted.message.from posted.message.to) here
          ∙ ap (λ (b : Bool). link_in (way_of (queue_at q.queue target) next (cond b (longer (q.outboxes target)) (q.outboxes target))) posted.message.from posted.message.to) (eq-eqb target target refl)
          ∙ stream_own (queue_at q.queue target) (next - (q.outboxes target).first) (q.outboxes target).messages posted posted.message.from posted.message.to (own_is posted.message) (omega (arith, next_is, ready.readers posted.message.to away))
          ∙ ap (λ (b : Bool). link_in (way_of (queue_at q.queue target) next (cond b q.outboxes (parts source).outboxes target)) posted.message.from posted.message.to ++ posted.message ∷ []) (sym here)

      others : (from to : Id) → is_of from to posted.message ≡ false → link_in (way q.queue q.inboxes (with_posted q.outboxes target posted) (home count from) (home count to)) from to ≡ (merged q).links from to
      others from to apart = by (p == home count from)
        where
          queue : List Message
          queue = queue_at q.queue (home count to)

          read : ℕ
          read = (inboxes_at q.inboxes (home count to) (home count from)).next

          inner : (same : Bool) → link_in (way_of queue read (cond same (longer (q.outboxes (home count to))) (q.outboxes (home count to)))) from to ≡ link_in (way_of queue read (q.outboxes (home count to))) from to
          inner true = stream_other queue (read - (q.outboxes (home count to)).first) (q.outboxes (home count to)).messages posted from to apart
          inner false = refl

          by : (here : Bool) → link_in (way_of queue read (cond here (with_posted q.outboxes target posted) (parts (home count from)).outboxes (home count to))) from to
              ≡ link_in (way_of queue read (cond here q.outboxes (parts (home count from)).outboxes (home count to))) from to
          by true = inner (target == home count to)
          by false = refl

  -- whether a receiver lives here, by the state's number
  away_of : (q : Partition) (to : Id) (test : Bool) → q.number ≡ p → (home count to == q.number) ≡ test → (p == home count to) ≡ test
  away_of q to test number is = turned (home count to) p test (ap (λ (n : ℕ). home count to == n) (sym number) ∙ is)

  pub post_merged : (q : Partition) (message : Message) → IsReady q → home count message.from ≡ p
      → merged (post count q message) ≡ record (merged q) { links = at_link (merged q).links message.from message.to ((merged q).links message.from message.to ++ message ∷ []) }
  post_merged q message ready sends = by (home count message.to == q.number) refl
    where
      by : (test : Bool) → (home count message.to == q.number) ≡ test
          → merged (cond test (record q { queue = q.queue ++ message ∷ [] }) (record q { outboxes = with_posted q.outboxes (home count message.to) (record { entry = entry_of q; message = message }) }))
          ≡ record (merged q) { links = at_link (merged q).links message.from message.to ((merged q).links message.from message.to ++ message ∷ []) }
      by true is = queued_merged q message ready sends (eqb-true (home count message.to) q.number is ∙ ready.number)
      by false is = streamed_merged q (record { entry = entry_of q; message = message }) ready sends (away_of q message.to false ready.number is)

  pub post_ready : (q : Partition) (message : Message) → IsReady q → IsReady (post count q message)
  post_ready q message ready = by (home count message.to == q.number) refl
    where
      posted : Posted
      posted = record { entry = entry_of q; message = message }

      longer : (box : Outbox) (next : ℕ) (test : Bool) → next ≤ box.first + length box.messages → next ≤ (cond test (record box { messages = box.messages ++ posted ∷ [] }) box).first + length (cond test (record box { messages = box.messages ++ posted ∷ [] }) box).messages
      longer box next true is = let more = length-append box.messages (posted ∷ []) in omega (arith, is, more)
      longer box next false is = is

      by : (test : Bool) → (home count message.to == q.number) ≡ test
          → IsReady (cond test (record q { queue = q.queue ++ message ∷ [] }) (record q { outboxes = with_posted q.outboxes (home count message.to) posted }))
      by true is = record { number = ready.number; alone = ready.alone; readers = ready.readers }
      by false is = record {
        number = ready.number;
        alone = ap (λ (b : Bool). (cond b (record (q.outboxes p) { messages = (q.outboxes p).messages ++ posted ∷ [] }) (q.outboxes p)).messages) (ap (λ (n : ℕ). home count message.to == n) (sym ready.number) ∙ is) ∙ ready.alone;
        readers = λ to away. longer (q.outboxes (home count to)) ((parts (home count to)).inboxes p).next (home count message.to == home count to) (ready.readers to away);
      }

  pub post_all_merged : (q : Partition) (id : Id) (messages : List Message) → IsReady q → home count id ≡ p → AllFrom id messages → merged (post_all count q messages) ≡ sent (merged q) messages
  post_all_merged q id [] ready here all = refl
  post_all_merged q id (message ∷ messages) ready here all =
      post_all_merged (post count q message) id messages (post_ready q message ready) here all.1
      ∙ ap (λ (w : World). sent w messages) (post_merged q message ready (ap (home count) all.0 ∙ here))

  -- ---- an instance as an effect made it

  asked_ready : (q : Partition) (id : Id) (list : List Asked) → IsReady q → IsReady (asked_in q id list)
  asked_ready q id [] ready = ready
  asked_ready q id (an_activity task name argument ∷ more) ready =
      asked_ready (record q { activities = at_number q.activities id task (Some (record { name = name; argument = argument })) }) id more (record { number = ready.number; alone = ready.alone; readers = ready.readers })
  asked_ready q id (a_timer task due ∷ more) ready =
      asked_ready (record q { timers = at_number q.timers id task (Some due) }) id more (record { number = ready.number; alone = ready.alone; readers = ready.readers })

  given_up_ready : (q : Partition) (id : Id) (over : Bool) → IsReady q → IsReady (given_up_in q id over)
  given_up_ready q id false ready = ready
  given_up_ready q id true ready = record { number = ready.number; alone = ready.alone; readers = ready.readers }

  pub stands_merged : (q : Partition) (id : Id) (stamp : ℕ) (event : Option Event) (e : Effect) → IsReady q → home count id ≡ p → AllFrom id e.sent
      → option_map (instance_in flows id) (option_map (row_after (q.instances id) stamp event) e.instance) ≡ e.instance
      → merged (stands_in count q id stamp event e) ≡ stands_as (merged q) id e
  stands_merged q id stamp event e ready here all fits =
      let row = option_map (row_after (q.instances id) stamp event) e.instance in
      let stood : Partition = record q { instances = at_id q.instances id row } in
      let stood_ready : IsReady stood = record { number = ready.number; alone = ready.alone; readers = ready.readers } in
      let given = given_up_in stood id e.gives_up in
      post_all_merged (asked_in given id e.asked) id e.sent (asked_ready given id e.asked (given_up_ready stood id e.gives_up stood_ready)) here all
      ∙ ap (λ (w : World). sent w e.sent) (asked_merged given id e.asked here)
      ∙ ap (λ (w : World). sent (asked w id e.asked) e.sent) (given_up_merged stood id e.gives_up here)
      ∙ ap (λ (w : World). sent (asked (given_up w id e.gives_up) id e.asked) e.sent) (row_merged q id row here)
      ∙ ap (λ (o : Option Orchestration). sent (asked (given_up (record (merged q) { orchestrations = at_id (merged q).orchestrations id o }) id e.gives_up) id e.asked) e.sent) fits
