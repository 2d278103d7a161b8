-- What a state needs so that it is shown is kept by all that is done to it.
use Rattle.std.proofs.Common.{◌≡◌, ◌≤◌, ◌<◌, ◌==◌, ◌&&◌, ◌⊎◌, inl, inr, ℕ, length, Bool, true, false, cond, List, [], ◌∷◌, ◌++◌, Option, Some, None, refl, sym, ap, subst, ◌∙◌, arith, length-append}
use Rattle.std.specs.Prelude.{option_map, nat_le}
use Rattle.std.specs.List.{Contains}
use Rattle.std.proofs.lemmas.Bool.{eqb-true, leb-true, leb-false, and_parts}
use Rattle.std.proofs.lemmas.List.Elements.{Contains-push_cases, Contains-append_cases, Contains-append_right, Contains-append_left}
use Rattle.dura_value.specs.Ids.{Id, home, id_eq}
use Rattle.dura_value.specs.Messages.{Answer, Body, Message}
use Rattle.flow_syntax.specs.Machine.{Asked, an_activity, a_timer, Event, Past}
use Rattle.flow_syntax.specs.Entity.{Entity}
use Rattle.dura_model.specs.World.{Orchestration, Activity}
use Rattle.dura_value.specs.ById.{at_id, at_number, cleared}
use Rattle.dura_model.specs.Deliveries.{Effect}
use Rattle.dura_model.specs.Partition.{Row, Inbox, Partition, entry_of, history_of, with_event, row_after, post, post_all, asked_in, given_up_in, stands_in, raised_to, first_in, without_first}
use Rattle.log_items.specs.Streams.{Outbox, with_posted}
use Rattle.dura_model.specs.Placed.{IsBehind, IsOther, Live, NumbersLive, Belongs}
use Rattle.dura_value.proofs.Ids.{id_same}
use Rattle.dura_model.proofs.Basics.{eqb_apart}
use Rattle.dura_model.proofs.Sending.{AllFrom}
use Rattle.dura_value.proofs.Basics.{some_same}
use Rattle.dura_value.specs.Items.{Posted}

-- ---- rows

live_at : {X : Type 0} (count place : ℕ) (f : Id → Option X) (id : Id) (x : Option X) → home count id ≡ place → Live count place f → Live count place (at_id f id x)
live_at count place f id x here live other y is = by (id_eq id other) refl is
  where
    by : (test : Bool) → id_eq id other ≡ test → cond test x (f other) ≡ Some y → home count other ≡ place
    by true same found = ap (home count) (sym (id_same id other same)) ∙ here
    by false apart found = live other y found

live_number : {X : Type 0} (count place : ℕ) (f : Id → ℕ → Option X) (id : Id) (number : ℕ) (x : Option X) → home count id ≡ place → NumbersLive count place f → NumbersLive count place (at_number f id number x)
live_number count place f id number x here live other n y is = by (id_eq id other) (number == n) refl is
  where
    by : (same also : Bool) → id_eq id other ≡ same → cond (same && also) x (f other n) ≡ Some y → home count other ≡ place
    by true also same found = ap (home count) (sym (id_same id other same)) ∙ here
    by false also apart found = live other n y found

live_cleared : {X : Type 0} (count place : ℕ) (f : Id → ℕ → Option X) (id : Id) → NumbersLive count place f → NumbersLive count place (cleared f id)
live_cleared count place f id live other n y is = by (id_eq id other) is
  where
    by : (test : Bool) → cond test None (f other n) ≡ Some y → home count other ≡ place
    by true found = absurd (cc found)
    by false found = live other n y found

-- ---- one state after another

module _ (count p : ℕ) where
  -- A state comes from another one in the same entry, whose streams were no longer and took in as much. It belongs to the place.
  pub record Follows (q next : Partition) : Type 0 where
    pub belongs : Belongs count p next
    pub begun : 0 < next.position
    pub position : next.position ≡ q.position
    pub incarnation : next.incarnation ≡ q.incarnation
    pub first : (target : ℕ) → (next.outboxes target).first ≡ (q.outboxes target).first
    pub longer : (target : ℕ) → length (q.outboxes target).messages ≤ length (next.outboxes target).messages
    pub read : (source : ℕ) → (next.inboxes source).next ≡ (q.inboxes source).next

  pub follows_then : (a b c : Partition) → Follows a b → Follows b c → Follows a c
  follows_then a b c one two = record {
    belongs = two.belongs;
    begun = two.begun;
    position = two.position ∙ one.position;
    incarnation = two.incarnation ∙ one.incarnation;
    first = λ target. two.first target ∙ one.first target;
    longer = λ target. omega (arith, one.longer target, two.longer target);
    read = λ source. two.read source ∙ one.read source;
  }

  -- the streams are as they were
  same_streams : (q next : Partition) → Belongs count p next → 0 < next.position → next.position ≡ q.position → next.incarnation ≡ q.incarnation → next.outboxes ≡ q.outboxes → next.inboxes ≡ q.inboxes → Follows q next
  same_streams q next belongs begun position incarnation out in_there = record {
    belongs = belongs;
    begun = begun;
    position = position;
    incarnation = incarnation;
    first = λ target. ap (λ (f : ℕ → Outbox). (f target).first) out;
    longer = λ target. let is = ap (λ (f : ℕ → Outbox). length (f target).messages) out in omega (arith, is);
    read = λ source. ap (λ (f : ℕ → Inbox). (f source).next) in_there;
  }

  pub taken_follows : (q : Partition) (id : Id) (number : ℕ) (message : Option Message) → home count id ≡ p → Belongs count p q → 0 < q.position → Follows q (record q { taken = at_number q.taken id number message })
  taken_follows q id number message here b begun = same_streams q (record q { taken = at_number q.taken id number message })
      (record {
        number = b.number;
        rows = record {
          requests = live_number count p q.taken id number message here b.rows.requests;
          answered = b.rows.answered;
          kept = b.rows.kept;
          reached = b.rows.reached;
          pending = b.rows.pending;
          due = b.rows.due;
        };
        queue = b.queue;
        outboxes = b.outboxes;
        inboxes = b.inboxes;
        stamps = b.stamps;
      }) begun refl refl refl refl

  pub answers_follows : (q : Partition) (id : Id) (number : ℕ) (answer : Option Answer) → home count id ≡ p → Belongs count p q → 0 < q.position → Follows q (record q { answers = at_number q.answers id number answer })
  answers_follows q id number answer here b begun = same_streams q (record q { answers = at_number q.answers id number answer })
      (record {
        number = b.number;
        rows = record {
          requests = b.rows.requests;
          answered = live_number count p q.answers id number answer here b.rows.answered;
          kept = b.rows.kept;
          reached = b.rows.reached;
          pending = b.rows.pending;
          due = b.rows.due;
        };
        queue = b.queue;
        outboxes = b.outboxes;
        inboxes = b.inboxes;
        stamps = b.stamps;
      }) begun refl refl refl refl

  pub activities_follows : (q : Partition) (id : Id) (task : ℕ) (activity : Option Activity) → home count id ≡ p → Belongs count p q → 0 < q.position → Follows q (record q { activities = at_number q.activities id task activity })
  activities_follows q id task activity here b begun = same_streams q (record q { activities = at_number q.activities id task activity })
      (record {
        number = b.number;
        rows = record {
          requests = b.rows.requests;
          answered = b.rows.answered;
          kept = b.rows.kept;
          reached = b.rows.reached;
          pending = live_number count p q.activities id task activity here b.rows.pending;
          due = b.rows.due;
        };
        queue = b.queue;
        outboxes = b.outboxes;
        inboxes = b.inboxes;
        stamps = b.stamps;
      }) begun refl refl refl refl

  pub timers_follows : (q : Partition) (id : Id) (task : ℕ) (due : Option ℕ) → home count id ≡ p → Belongs count p q → 0 < q.position → Follows q (record q { timers = at_number q.timers id task due })
  timers_follows q id task due here b begun = same_streams q (record q { timers = at_number q.timers id task due })
      (record {
        number = b.number;
        rows = record {
          requests = b.rows.requests;
          answered = b.rows.answered;
          kept = b.rows.kept;
          reached = b.rows.reached;
          pending = b.rows.pending;
          due = live_number count p q.timers id task due here b.rows.due;
        };
        queue = b.queue;
        outboxes = b.outboxes;
        inboxes = b.inboxes;
        stamps = b.stamps;
      }) begun refl refl refl refl

  pub given_up_follows : (q : Partition) (id : Id) (over : Bool) → Belongs count p q → 0 < q.position → Follows q (given_up_in q id over)
  given_up_follows q id false b begun = same_streams q q b begun refl refl refl refl
  given_up_follows q id true b begun = same_streams q (given_up_in q id true)
      (record {
        number = b.number;
        rows = record {
          requests = b.rows.requests;
          answered = b.rows.answered;
          kept = b.rows.kept;
          reached = b.rows.reached;
          pending = live_cleared count p q.activities id b.rows.pending;
          due = live_cleared count p q.timers id b.rows.due;
        };
        queue = b.queue;
        outboxes = b.outboxes;
        inboxes = b.inboxes;
        stamps = b.stamps;
      }) begun refl refl refl refl

  pub asked_follows : (q : Partition) (id : Id) (list : List Asked) → home count id ≡ p → Belongs count p q → 0 < q.position → Follows q (asked_in q id list)
  asked_follows q id [] here b begun = same_streams q q b begun refl refl refl refl
  asked_follows q id (an_activity task name argument ∷ more) here b begun =
      let after : Partition = record q { activities = at_number q.activities id task (Some (record { name = name; argument = argument })) } in
      let one = activities_follows q id task (Some (record { name = name; argument = argument })) here b begun in
      follows_then q after (asked_in after id more) one (asked_follows after id more here one.belongs one.begun)
  asked_follows q id (a_timer task due ∷ more) here b begun =
      let after : Partition = record q { timers = at_number q.timers id task (Some due) } in
      let one = timers_follows q id task (Some due) here b begun in
      follows_then q after (asked_in after id more) one (asked_follows after id more here one.belongs one.begun)

  -- ---- stamps

  raised_above : (was stamp : ℕ) (low : Bool) → nat_le was stamp ≡ low → (was ≤ cond low stamp was) × (stamp ≤ cond low stamp was)
  raised_above was stamp true is = (leb-true was stamp is, omega arith)
  raised_above was stamp false is = let high : stamp < was = leb-false was stamp is in (omega arith, omega (arith, high))

  -- the greatest stamp is raised, and is then no less than this
  pub raised_follows : (q : Partition) (stamp : ℕ) → Belongs count p q → 0 < q.position → Follows q (raised_to stamp q) × (stamp ≤ (raised_to stamp q).stamp)
  raised_follows q stamp b begun =
      let above = raised_above q.stamp stamp (nat_le q.stamp stamp) refl in
      let is = above.0 in (
        same_streams q (raised_to stamp q)
            (record {
              number = b.number;
              rows = b.rows;
              queue = b.queue;
              outboxes = b.outboxes;
              inboxes = b.inboxes;
              stamps = record {
                rows = λ id row found. let low = b.stamps.rows id row found in omega (arith, low, is);
                events = λ id row found past of_it. let low = b.stamps.events id row found past of_it in omega (arith, low, is);
                lasts = λ id e found. let low = b.stamps.lasts id e found in omega (arith, low, is);
              };
            }) begun refl refl refl refl,
        above.1,
      )

  -- the events of a row after one more
  event_stamps : (history : List Past) (stamp top : ℕ) (event : Option Event) → ((past : Past) → Contains history past → past.stamp ≤ top) → stamp ≤ top → (past : Past) → Contains (with_event history stamp event) past → past.stamp ≤ top
  event_stamps history stamp top None old low past of_it = old past of_it
  event_stamps history stamp top (Some event) old low past of_it = by (Contains-push_cases history new past of_it)
    where
      new : Past
      new = record { event = event; stamp = stamp }

      by : Contains history past ⊎ (new ≡ past) → past.stamp ≤ top
      by (inl before) = old past before
      by (inr is) = subst (λ (one : Past). one.stamp ≤ top) is low

  history_stamps : (top : ℕ) (row : Option Row) → ((one : Row) → row ≡ Some one → (past : Past) → Contains one.history past → past.stamp ≤ top) → (past : Past) → Contains (history_of row) past → past.stamp ≤ top
  history_stamps top None old past of_it = absurd (let none : of_it.0 < 0 = of_it.1 in omega (arith, none))
  history_stamps top (Some row) old past of_it = old row refl past of_it

  -- an instance's row is another one
  pub row_follows : (q : Partition) (id : Id) (stamp : ℕ) (event : Option Event) (o : Option Orchestration) → home count id ≡ p → Belongs count p q → 0 < q.position → stamp ≤ q.stamp
      → Follows q (record q { instances = at_id q.instances id (option_map (row_after (q.instances id) stamp event) o) })
  row_follows q id stamp event o here b begun low = same_streams q (record q { instances = at_id q.instances id (option_map (row_after (q.instances id) stamp event) o) })
      (record {
        number = b.number;
        rows = record {
          requests = b.rows.requests;
          answered = b.rows.answered;
          kept = live_at count p q.instances id (option_map (row_after (q.instances id) stamp event) o) here b.rows.kept;
          reached = b.rows.reached;
          pending = b.rows.pending;
          due = b.rows.due;
        };
        queue = b.queue;
        outboxes = b.outboxes;
        inboxes = b.inboxes;
        stamps = record {
          rows = λ other row found. (by other row (id_eq id other) o found).0;
          events = λ other row found. (by other row (id_eq id other) o found).1;
          lasts = b.stamps.lasts;
        };
      }) begun refl refl refl refl
    where
      by : (other : Id) (row : Row) (test : Bool) (now : Option Orchestration) → cond test (option_map (row_after (q.instances id) stamp event) now) (q.instances other) ≡ Some row
          → (row.stamp ≤ q.stamp) × ((past : Past) → Contains row.history past → past.stamp ≤ q.stamp)
      by other row true None found = absurd (cc found)
      by other row true (Some one) found =
          subst (λ (r : Row). (r.stamp ≤ q.stamp) × ((past : Past) → Contains r.history past → past.stamp ≤ q.stamp)) (some_same found)
          (low, event_stamps (history_of (q.instances id)) stamp q.stamp event (history_stamps q.stamp (q.instances id) (b.stamps.events id)) low)
      by other row false now found = (b.stamps.rows other row found, b.stamps.events other row found)

  pub entity_follows : (q : Partition) (id : Id) (e : Entity) → home count id ≡ p → Belongs count p q → 0 < q.position → e.last ≤ q.stamp → Follows q (record q { entities = at_id q.entities id (Some e) })
  entity_follows q id e here b begun low = same_streams q (record q { entities = at_id q.entities id (Some e) })
      (record {
        number = b.number;
        rows = record {
          requests = b.rows.requests;
          answered = b.rows.answered;
          kept = b.rows.kept;
          reached = live_at count p q.entities id (Some e) here b.rows.reached;
          pending = b.rows.pending;
          due = b.rows.due;
        };
        queue = b.queue;
        outboxes = b.outboxes;
        inboxes = b.inboxes;
        stamps = record { rows = b.stamps.rows; events = b.stamps.events; lasts = λ other one found. by other one (id_eq id other) found };
      }) begun refl refl refl refl
    where
      by : (other : Id) (one : Entity) (test : Bool) → cond test (Some e) (q.entities other) ≡ Some one → one.last ≤ q.stamp
      by other one true found = subst (λ (x : Entity). x.last ≤ q.stamp) (some_same found) low
      by other one false found = b.stamps.lasts other one found

  -- ---- messages

  -- the queue is another one, of messages to receivers here
  pub queue_follows : (q : Partition) (queue : List Message) → Belongs count p q → 0 < q.position → ((message : Message) → Contains queue message → home count message.to ≡ p) → Follows q (record q { queue = queue })
  queue_follows q queue b begun lives = same_streams q (record q { queue = queue })
      (record { number = b.number; rows = b.rows; queue = lives; outboxes = b.outboxes; inboxes = b.inboxes; stamps = b.stamps }) begun refl refl refl refl

  -- one more message in a queue
  pub queued_lives : (queue : List Message) (message : Message) → ((one : Message) → Contains queue one → home count one.to ≡ p) → home count message.to ≡ p → (one : Message) → Contains (queue ++ message ∷ []) one → home count one.to ≡ p
  queued_lives queue message old here one of_it = by (Contains-push_cases queue message one of_it)
    where
      by : Contains queue one ⊎ (message ≡ one) → home count one.to ≡ p
      by (inl before) = old one before
      by (inr is) = ap (λ (m : Message). home count m.to) (sym is) ∙ here

  -- the entry that is under way is an earlier one than the next
  pub entry_behind : (q : Partition) → Belongs count p q → 0 < q.position → IsBehind p q.position q.incarnation (entry_of q)
  entry_behind q b begun = record { here = b.number; before = omega (arith, begun); alive = omega arith }

  -- a message to another partition
  posted_follows : (q : Partition) (message : Message) → home count message.from ≡ p → home count message.to < count → (home count message.to ≡ p → ⊥) → Belongs count p q → 0 < q.position
      → Follows q (record q { outboxes = with_posted q.outboxes (home count message.to) (record { entry = entry_of q; message = message }) })
  posted_follows q message here below away b begun = record {
    belongs = record {
      number = b.number;
      rows = b.rows;
      queue = b.queue;
      outboxes = record {
        others = λ other. others other (target == other) refl;
        senders = λ other one of_it. (holds other one (target == other) refl of_it).0;
        receivers = λ other one of_it. (holds other one (target == other) refl of_it).1;
        earlier = λ other one of_it. (holds other one (target == other) refl of_it).2;
      };
      inboxes = b.inboxes;
      stamps = b.stamps;
    };
    begun = begun;
    position = refl;
    incarnation = refl;
    first = λ other. first other (target == other);
    longer = λ other. longer other (target == other);
    read = λ source. refl;
  }
    where
      target : ℕ
      target = home count message.to

      posted : Posted
      posted = record { entry = entry_of q; message = message }

      box_of : ℕ → Bool → Outbox
      box_of other test = cond test (record (q.outboxes other) { messages = (q.outboxes other).messages ++ posted ∷ [] }) (q.outboxes other)

      first : (other : ℕ) (test : Bool) → (box_of other test).first ≡ (q.outboxes other).first
      first other true = refl
      first other false = refl

      longer : (other : ℕ) (test : Bool) → length (q.outboxes other).messages ≤ length (box_of other test).messages
      longer other true = let more = length-append (q.outboxes other).messages (posted ∷ []) in omega (arith, more)
      longer other false = omega arith

      others : (other : ℕ) (test : Bool) → (target == other) ≡ test → IsOther count p other ⊎ (box_of other test ≡ record { first = 0; messages = [] })
      others other true is = let same = eqb-true target other is in inl (record { apart = λ wrong. away (same ∙ wrong); below = omega (arith, same, below) })
      others other false is = b.outboxes.others other

      AllIs : ℕ → Posted → Type 0
      AllIs other one = (home count one.message.from ≡ p) × (home count one.message.to ≡ other) × IsBehind p q.position q.incarnation one.entry

      before : (other : ℕ) (one : Posted) → Contains (q.outboxes other).messages one → AllIs other one
      before other one of_it = (b.outboxes.senders other one of_it, b.outboxes.receivers other one of_it, b.outboxes.earlier other one of_it)

      holds : (other : ℕ) (one : Posted) (test : Bool) → (target == other) ≡ test → Contains (box_of other test).messages one → AllIs other one
      holds other one true is of_it = by (Contains-push_cases (q.outboxes other).messages posted one of_it)
        where
          by : Contains (q.outboxes other).messages one ⊎ (posted ≡ one) → AllIs other one
          by (inl old) = before other one old
          by (inr new) = subst (λ (x : Posted). AllIs other x) new (here, eqb-true target other is, entry_behind q b begun)
      holds other one false is of_it = before other one of_it

  pub post_follows : (q : Partition) (message : Message) → home count message.from ≡ p → home count message.to < count → Belongs count p q → 0 < q.position → Follows q (post count q message)
  post_follows q message here below b begun = by (home count message.to == q.number) refl
    where
      by : (test : Bool) → (home count message.to == q.number) ≡ test
          → Follows q (cond test (record q { queue = q.queue ++ message ∷ [] }) (record q { outboxes = with_posted q.outboxes (home count message.to) (record { entry = entry_of q; message = message }) }))
      by true is = queue_follows q (q.queue ++ message ∷ []) b begun (queued_lives q.queue message b.queue (eqb-true (home count message.to) q.number is ∙ b.number))
      by false is = posted_follows q message here below (λ wrong. eqb_apart (home count message.to) q.number is (wrong ∙ sym b.number)) b begun

  pub post_all_follows : (q : Partition) (id : Id) (messages : List Message) → ((to : Id) → home count to < count) → home count id ≡ p → AllFrom id messages → Belongs count p q → 0 < q.position → Follows q (post_all count q messages)
  post_all_follows q id [] below here all b begun = same_streams q q b begun refl refl refl refl
  post_all_follows q id (message ∷ messages) below here all b begun =
      let one = post_follows q message (ap (home count) all.0 ∙ here) (below message.to) b begun in
      follows_then q (post count q message) (post_all count (post count q message) messages) one (post_all_follows (post count q message) id messages below here all.1 one.belongs one.begun)

  pub stands_follows : (q : Partition) (id : Id) (stamp : ℕ) (event : Option Event) (e : Effect) → ((to : Id) → home count to < count) → home count id ≡ p → AllFrom id e.sent → Belongs count p q → 0 < q.position → stamp ≤ q.stamp
      → Follows q (stands_in count q id stamp event e)
  stands_follows q id stamp event e below here all b begun low =
      let stood : Partition = record q { instances = at_id q.instances id (option_map (row_after (q.instances id) stamp event) e.instance) } in
      let given = given_up_in stood id e.gives_up in
      let wanted = asked_in given id e.asked in
      let one = row_follows q id stamp event e.instance here b begun low in
      let two = given_up_follows stood id e.gives_up one.belongs one.begun in
      let three = asked_follows given id e.asked here two.belongs two.begun in
      let four = post_all_follows wanted id e.sent below here all three.belongs three.begun in
      follows_then q stood (post_all count wanted e.sent) one (follows_then stood given (post_all count wanted e.sent) two (follows_then given wanted (post_all count wanted e.sent) three four))

  -- ---- the first message of a link

  pub without_contained : (queue : List Message) (from to : Id) (one : Message) → Contains (without_first queue from to) one → Contains queue one
  without_contained [] from to one of_it = of_it
  without_contained (message ∷ queue) from to one of_it = by (id_eq from message.from && id_eq to message.to) of_it (without_contained queue from to one)
    where
      later : Contains queue one → Contains (message ∷ queue) one
      later has = Contains-append_right (message ∷ []) queue one has

      by : (test : Bool) → Contains (cond test queue (message ∷ without_first queue from to)) one → (Contains (without_first queue from to) one → Contains queue one) → Contains (message ∷ queue) one
      by true has rest = later has
      by false has rest = split (Contains-append_cases (message ∷ []) (without_first queue from to) one has)
        where
          split : Contains (message ∷ []) one ⊎ Contains (without_first queue from to) one → Contains (message ∷ queue) one
          split (inl first) = Contains-append_left (message ∷ []) queue one first
          split (inr behind) = later (rest behind)

  -- a link that has a message in the queue ends here
  pub first_lives : (queue : List Message) (from to : Id) (body : Body) → ((one : Message) → Contains queue one → home count one.to ≡ p) → first_in queue from to ≡ Some body → home count to ≡ p
  first_lives [] from to body lives is = absurd (cc is)
  first_lives (message ∷ queue) from to body lives is = by (id_eq from message.from && id_eq to message.to) refl is (first_lives queue from to body (λ one of_it. lives one (Contains-append_right (message ∷ []) queue one of_it)))
    where
      by : (test : Bool) → (id_eq from message.from && id_eq to message.to) ≡ test → cond test (Some message.body) (first_in queue from to) ≡ Some body → (first_in queue from to ≡ Some body → home count to ≡ p) → home count to ≡ p
      by true same found rest =
          ap (home count) (id_same to message.to (and_parts (id_eq from message.from) (id_eq to message.to) same).1)
          ∙ lives message (0, omega arith, refl)
      by false apart found rest = rest found
