-- Laws of legal runs.
use Rattle.std.proofs.Common.{◌≡◌, ◌≤◌, ◌<◌, ◌+◌, ◌⊎◌, inl, inr, ◌==◌, ◌&&◌, ℕ, length, Bool, true, false, cond, List, [], ◌∷◌, ◌++◌, Option, Some, None, refl, sym, ap, subst, ◌∙◌, arith, eq-eqb}
use Rattle.std.specs.Prelude.{nat_le}
use Rattle.std.specs.Option.{option_and_then}
use Rattle.std.proofs.lemmas.Bool.{eqb-true, cases_lt, and_parts}
use Rattle.activity_table.specs.Table.{may}
use Rattle.dura_value.specs.declared.data.Value.{Value}
use Rattle.dura_value.specs.declared.outcome.Outcome.{Outcome}
use Rattle.dura_value.specs.Ids.{Id, orchestration, entity, client, id_eq}
use Rattle.dura_value.specs.Messages.{Reply, to_nobody, to_task, to_request, Answer, Body, start, raise, query, wait, result, operate, lock, granted, release, Message, was_raised as is_raised}
use Rattle.flow_syntax.specs.Syntax.{Flows, Block}
use Rattle.flow_syntax.specs.Machine.{Machine, new_machine, Asked, an_activity, a_timer, Resumed, Event, started, resulted, was_raised, fired, was_granted, resume}
use Rattle.flow_syntax.specs.Entity.{Entity, takes, deliver as deliver_to}
use Rattle.dura_model.specs.World.{World, Orchestration, Activity, at_link, empty}
use Rattle.dura_value.specs.ById.{at_id, at_number}
use Rattle.dura_model.specs.Deliveries.{Effect, ending, at_end, goes_on_from, begun, flow_of, beginning, to_absent, to_present, is_over, waited, raised_at, result_at, granted_at, at_stamp, to_instance, telling}
use Rattle.dura_model.specs.Steps.{Label, take, deliver, finish, fire, sent, asked, given_up, stands_as, is_request, taken, last_of, entity_of, to_entity, answered, to_client, received, delivered, answer_of, finished, timed, step}
use Rattle.dura_model.specs.Legal.{Legal, after_from, is_finish, finishes}
use Rattle.dura_value.proofs.Ids.{id_same, id_self, and_true}
use Rattle.dura_model.proofs.Basics.{passes, passed}
use Rattle.dura_model.proofs.Growing.{Grows, AllNew, resume_grows}
use Rattle.dura_value.proofs.Basics.{some_same}

-- how many tasks an instance has
abbrev tasks_of : Option Orchestration → ℕ
tasks_of None = 0
tasks_of (Some o) = length o.machine.tasks

abbrev tasks_in : World → Id → ℕ
tasks_in w id = tasks_of (w.orchestrations id)

-- What a step makes of a world: no instance has fewer tasks, and no activity becomes pending but under the number of a new task.
record Moves (w next : World) : Type 0 where
  more : (id : Id) → tasks_in w id ≤ tasks_in next id
  still : (id : Id) (task : ℕ) → (task < tasks_in w id) ⊎ (tasks_in next id ≤ task) → w.activities id task ≡ None → next.activities id task ≡ None

moves_not : (w : World) → Moves w w
moves_not w = record { more = λ id. omega arith; still = λ id task where_it_is is. is }

-- the same instances, and the same activities
moves_same : (w next : World) → next.orchestrations ≡ w.orchestrations → next.activities ≡ w.activities → Moves w next
moves_same w next same also = record {
  more = λ id. let is = ap (λ (f : Id → Option Orchestration). tasks_of (f id)) same in omega (arith, is);
  still = λ id task where_it_is is. ap (λ (f : Id → ℕ → Option Activity). f id task) also ∙ is;
}

-- an effect on an instance with so many tasks
record Adds (low : ℕ) (e : Effect) : Type 0 where
  more : low ≤ tasks_of e.instance
  fresh : AllNew low (tasks_of e.instance) e.asked

adds_same : (low : ℕ) (e : Effect) → tasks_of e.instance ≡ low → e.asked ≡ [] → Adds low e
adds_same low e is nothing = record { more = omega (arith, is); fresh = subst (AllNew low (tasks_of e.instance)) (sym nothing) tt }

-- ---- effects

at_end_adds : (low : ℕ) (r : Resumed) (waiting : List (Id × ℕ)) (before : List Message) (answer : Option Answer) → Grows low r → Adds low (at_end r waiting before answer)
at_end_adds low r waiting before None grows = record { more = grows.more; fresh = grows.fresh }
at_end_adds low r waiting before (Some answer) grows = record { more = grows.more; fresh = tt }

goes_on_adds : (o : Orchestration) (event : Event) (stamp : ℕ) (before : List Message) → Adds (length o.machine.tasks) (goes_on_from o event stamp before)
goes_on_adds o event stamp before = let r = resume o.machine event stamp in at_end_adds _ r o.waiting before (ending r.machine.progress) (resume_grows o.machine event stamp)

begun_adds : (from to : Id) (argument : Value) (reply : Reply) (stamp : ℕ) (body : Option Block) → Adds 0 (begun from to argument reply stamp body)
begun_adds from to argument reply stamp None = adds_same _ _ refl refl
begun_adds from to argument reply stamp (Some body) = goes_on_adds (record { machine = new_machine to (Some body); waiting = [] }) (started from argument reply) stamp (beginning to from reply)

absent_adds : (flows : Flows) (from to : Id) (stamp : ℕ) (body : Body) → Adds 0 (to_absent flows from to stamp body)
absent_adds flows from to stamp (start argument reply) = begun_adds from to argument reply stamp (flow_of flows to)
absent_adds flows from to stamp (wait number) = adds_same _ _ refl refl
absent_adds flows from to stamp (raise event value number) = adds_same _ _ refl refl
absent_adds flows from to stamp (query number) = adds_same _ _ refl refl
absent_adds flows from to stamp (result reply answer) = adds_same _ _ refl refl
absent_adds flows from to stamp (operate operation argument reply) = adds_same _ _ refl refl
absent_adds flows from to stamp (lock id task set index) = adds_same _ _ refl refl
absent_adds flows from to stamp (granted task) = adds_same _ _ refl refl
absent_adds flows from to stamp release = adds_same _ _ refl refl

waited_adds : (m : Machine) (waiting : List (Id × ℕ)) (from to : Id) (number : ℕ) (answer : Option Answer) → Adds (length m.tasks) (waited m waiting from to number answer)
waited_adds m waiting from to number None = adds_same _ _ refl refl
waited_adds m waiting from to number (Some answer) = adds_same _ _ refl refl

raised_adds : (o : Orchestration) (from to : Id) (stamp : ℕ) (event : List ℕ) (value : Value) (number : ℕ) (over : Bool) → Adds (length o.machine.tasks) (raised_at o from to stamp event value number over)
raised_adds o from to stamp event value number true = adds_same _ _ refl refl
raised_adds o from to stamp event value number false = goes_on_adds o (was_raised event value) stamp (telling to from number is_raised)

result_adds : (o : Orchestration) (stamp task : ℕ) (answer : Answer) (over : Bool) → Adds (length o.machine.tasks) (result_at o stamp task answer over)
result_adds o stamp task answer true = adds_same _ _ refl refl
result_adds o stamp task answer false = goes_on_adds o (resulted task answer) stamp []

granted_adds : (o : Orchestration) (stamp task : ℕ) (over : Bool) → Adds (length o.machine.tasks) (granted_at o stamp task over)
granted_adds o stamp task true = record { more = (resume_grows o.machine (was_granted task) stamp).more; fresh = tt }
granted_adds o stamp task false = goes_on_adds o (was_granted task) stamp []

present_adds : (o : Orchestration) (from to : Id) (stamp : ℕ) (body : Body) → Adds (length o.machine.tasks) (to_present o from to stamp body)
present_adds o from to stamp (start argument reply) = adds_same _ _ refl refl
present_adds o from to stamp (query number) = adds_same _ _ refl refl
present_adds o from to stamp (wait number) = waited_adds o.machine o.waiting from to number (ending o.machine.progress)
present_adds o from to stamp (raise event value number) = raised_adds o from to stamp event value number (is_over o.machine.progress)
present_adds o from to stamp (result to_nobody answer) = adds_same _ _ refl refl
present_adds o from to stamp (result (to_task task) answer) = result_adds o stamp task answer (is_over o.machine.progress)
present_adds o from to stamp (result (to_request number) answer) = adds_same _ _ refl refl
present_adds o from to stamp (granted task) = granted_adds o stamp task (is_over o.machine.progress)
present_adds o from to stamp (operate operation argument reply) = adds_same _ _ refl refl
present_adds o from to stamp (lock id task set index) = adds_same _ _ refl refl
present_adds o from to stamp release = adds_same _ _ refl refl

instance_adds : (flows : Flows) (there : Option Orchestration) (from to : Id) (stamp : ℕ) (body : Body) → Adds (tasks_of there) (to_instance flows there from to stamp body)
instance_adds flows None from to stamp body = absent_adds flows from to stamp body
instance_adds flows (Some o) from to stamp body = present_adds (at_stamp o stamp) from to stamp body

-- ---- worlds

sent_same : (w : World) (messages : List Message) → ((sent w messages).orchestrations ≡ w.orchestrations) × ((sent w messages).activities ≡ w.activities)
sent_same w [] = (refl, refl)
sent_same w (message ∷ messages) = sent_same (record w { links = at_link w.links message.from message.to (w.links message.from message.to ++ message ∷ []) }) messages

asked_same : (w : World) (id : Id) (list : List Asked) → (asked w id list).orchestrations ≡ w.orchestrations
asked_same w id [] = refl
asked_same w id (an_activity task name argument ∷ more) = asked_same (record w { activities = at_number w.activities id task (Some (record { name = name; argument = argument })) }) id more
asked_same w id (a_timer task due ∷ more) = asked_same (record w { timers = at_number w.timers id task (Some due) }) id more

given_up_same : (w : World) (id : Id) (over : Bool) → (given_up w id over).orchestrations ≡ w.orchestrations
given_up_same w id false = refl
given_up_same w id true = refl

-- a number that isn't new stays as it is
asked_none : (low high : ℕ) (w : World) (id : Id) (list : List Asked) (other : Id) (task : ℕ) → AllNew low high list → (id_eq id other ≡ true → (task < low) ⊎ (high ≤ task)) → w.activities other task ≡ None → (asked w id list).activities other task ≡ None
asked_none low high w id [] other task new old is = is
asked_none low high w id (an_activity number name argument ∷ more) other task new old is =
    asked_none low high (record w { activities = at_number w.activities id number (Some (record { name = name; argument = argument })) }) id more other task new.2 old (by (id_eq id other) (number == task) refl refl)
  where
    outside : number ≡ task → (task < low) ⊎ (high ≤ task) → ⊥
    outside same (inl below) = omega (arith, same, below, new.0)
    outside same (inr above) = omega (arith, same, above, new.1)

    by : (one two : Bool) → id_eq id other ≡ one → (number == task) ≡ two → cond (one && two) (Some (record { name = name; argument = argument })) (w.activities other task) ≡ None
    by true true same same_number = absurd (outside (eqb-true number task same_number) (old same))
    by true false same same_number = is
    by false two same same_number = is
asked_none low high w id (a_timer number due ∷ more) other task new old is = asked_none low high (record w { timers = at_number w.timers id number (Some due) }) id more other task new old is

given_up_none : (w : World) (id : Id) (over : Bool) (other : Id) (task : ℕ) → w.activities other task ≡ None → (given_up w id over).activities other task ≡ None
given_up_none w id false other task is = is
given_up_none w id true other task is = by (id_eq id other)
  where
    by : (same : Bool) → cond same None (w.activities other task) ≡ None
    by true = refl
    by false = is

-- a number under which one activity less is pending
less_none : (w : World) (id : Id) (number : ℕ) (other : Id) (task : ℕ) → w.activities other task ≡ None → at_number w.activities id number None other task ≡ None
less_none w id number other task is = by (id_eq id other && number == task)
  where
    by : (same : Bool) → cond same None (w.activities other task) ≡ None
    by true = refl
    by false = is

-- an instance stands as an effect made it, in a world with the same instances and no more activities than the one before
stands_moves : (w v : World) (id : Id) (e : Effect) → v.orchestrations ≡ w.orchestrations → ((other : Id) (task : ℕ) → w.activities other task ≡ None → v.activities other task ≡ None) → Adds (tasks_in w id) e → Moves w (stands_as v id e)
stands_moves w v id e same fewer adds = record {
  more = λ other. more other (id_eq id other) refl;
  still = λ other task where_it_is is.
      ap (λ (f : Id → ℕ → Option Activity). f other task) (sent_same after e.sent).1
      ∙ asked_none (tasks_in w id) (tasks_of e.instance) given id e.asked other task adds.fresh (λ here. old other task here where_it_is)
      (given_up_none stood id e.gives_up other task (fewer other task is));
}
  where
    stood : World
    stood = record v { orchestrations = at_id v.orchestrations id e.instance }

    given : World
    given = given_up stood id e.gives_up

    after : World
    after = asked given id e.asked

    stands : (other : Id) → (stands_as v id e).orchestrations other ≡ cond (id_eq id other) e.instance (w.orchestrations other)
    stands other =
        ap (λ (f : Id → Option Orchestration). f other) ((sent_same after e.sent).0 ∙ asked_same given id e.asked ∙ given_up_same stood id e.gives_up)
        ∙ ap (λ (f : Id → Option Orchestration). cond (id_eq id other) e.instance (f other)) same

    count : (other : Id) (here : Bool) → id_eq id other ≡ here → tasks_in (stands_as v id e) other ≡ cond here (tasks_of e.instance) (tasks_in w other)
    count other true here = ap tasks_of (stands other) ∙ ap (λ (b : Bool). tasks_of (cond b e.instance (w.orchestrations other))) here
    count other false here = ap tasks_of (stands other) ∙ ap (λ (b : Bool). tasks_of (cond b e.instance (w.orchestrations other))) here

    more : (other : Id) (here : Bool) → id_eq id other ≡ here → tasks_in w other ≤ tasks_in (stands_as v id e) other
    more other true here = let is = count other true here in let it = ap (tasks_in w) (id_same id other here) in omega (arith, is, it, adds.more)
    more other false here = let is = count other false here in omega (arith, is)

    old : (other : Id) (task : ℕ) → id_eq id other ≡ true → (task < tasks_in w other) ⊎ (tasks_in (stands_as v id e) other ≤ task) → (task < tasks_in w id) ⊎ (tasks_of e.instance ≤ task)
    old other task here (inl below) = let it = ap (tasks_in w) (id_same id other here) in inl (omega (arith, it, below))
    old other task here (inr above) = let is = count other true here in inr (omega (arith, is, above))

-- ---- steps

module _ (flows : Flows) where
  taken_moves : (w : World) (who : Id) (number : ℕ) (message : Message) (before : Option Message) (next : World) → taken w who number message before ≡ Some next → Moves w next
  taken_moves w who number message None next is =
      let v : World = record w { taken = at_number w.taken who number (Some message) } in
      let same = sent_same v (message ∷ []) in
      subst (Moves w) (some_same is) (moves_same w (sent v (message ∷ [])) same.0 same.1)
  taken_moves w who number message (Some other) next is = absurd (cc is)

  answered_moves : (w v : World) (to : Id) (number : ℕ) (answer : Answer) (before : Option Message) → v.orchestrations ≡ w.orchestrations → v.activities ≡ w.activities → Moves w (answered v to number answer before)
  answered_moves w v to number answer None same also = moves_same w v same also
  answered_moves w v to number answer (Some message) same also = moves_same w (answered v to number answer (Some message)) same also

  client_moves : (w v : World) (to : Id) (body : Body) → v.orchestrations ≡ w.orchestrations → v.activities ≡ w.activities → Moves w (to_client v to body)
  client_moves w v to (start argument reply) same also = moves_same w v same also
  client_moves w v to (raise event value number) same also = moves_same w v same also
  client_moves w v to (query number) same also = moves_same w v same also
  client_moves w v to (wait number) same also = moves_same w v same also
  client_moves w v to (result to_nobody answer) same also = moves_same w v same also
  client_moves w v to (result (to_task task) answer) same also = moves_same w v same also
  client_moves w v to (result (to_request number) answer) same also = answered_moves w v to number answer (v.taken to number) same also
  client_moves w v to (operate operation argument reply) same also = moves_same w v same also
  client_moves w v to (lock id task set index) same also = moves_same w v same also
  client_moves w v to (granted task) same also = moves_same w v same also
  client_moves w v to release same also = moves_same w v same also

  entity_moves : (w v : World) (class : List ℕ) (from to : Id) (stamp : ℕ) (body : Body) (e : Entity) (next : World) → v.orchestrations ≡ w.orchestrations → v.activities ≡ w.activities → to_entity flows v class from to stamp body e ≡ Some next → Moves w next
  entity_moves w v class from to stamp body e next same also is =
      let d = deliver_to flows (record e { last = stamp }) class from to body in
      let u : World = record v { entities = at_id v.entities to (Some d.entity) } in
      let sends = sent_same u d.sent in
      subst (Moves w) (passed (takes e.holder from && nat_le e.last stamp) (sent u d.sent) next is).1 (moves_same w (sent u d.sent) (sends.0 ∙ same) (sends.1 ∙ also))

  received_moves : (w v : World) (from to : Id) (stamp : ℕ) (body : Body) (next : World) → v.orchestrations ≡ w.orchestrations → v.activities ≡ w.activities → received flows v from to stamp body ≡ Some next → Moves w next
  received_moves w v from (orchestration flow key) stamp body next same also is =
      let to = orchestration flow key in
      let e = to_instance flows (v.orchestrations to) from to stamp body in
      subst (Moves w) (passed (nat_le (last_of (v.orchestrations to)) stamp) (stands_as v to e) next is).1
      (stands_moves w v to e same (λ other task none. ap (λ (f : Id → ℕ → Option Activity). f other task) also ∙ none)
      (subst (λ (f : Id → Option Orchestration). Adds (tasks_of (f to)) e) same (instance_adds flows (v.orchestrations to) from to stamp body)))
  received_moves w v from (entity class key) stamp body next same also is =
      entity_moves w v class from (entity class key) stamp body (entity_of flows class (v.entities (entity class key))) next same also is
  received_moves w v from (client name) stamp body next same also is = subst (Moves w) (some_same is) (client_moves w v (client name) body same also)

  delivered_moves : (w : World) (from to : Id) (stamp : ℕ) (link : List Message) (next : World) → delivered flows w from to stamp link ≡ Some next → Moves w next
  delivered_moves w from to stamp [] next is = absurd (cc is)
  delivered_moves w from to stamp (message ∷ rest) next is = received_moves w (record w { links = at_link w.links from to rest }) from to stamp message.body next refl refl is

finished_is : (w : World) (id : Id) (task : ℕ) (outcome : Outcome) (o : Orchestration) → World
finished_is w id task outcome o = stands_as (record w { activities = at_number w.activities id task None }) id (goes_on_from o (resulted task (answer_of outcome)) o.machine.last [])

finished_moves : (w : World) (id : Id) (task : ℕ) (outcome : Outcome) (there : Option Orchestration) (pending : Option Activity) (next : World) → w.orchestrations id ≡ there → finished w id task outcome there pending ≡ Some next → Moves w next
finished_moves w id task outcome None pending next there is = absurd (cc is)
finished_moves w id task outcome (Some o) None next there is = absurd (cc is)
finished_moves w id task outcome (Some o) (Some activity) next there is =
    let e = goes_on_from o (resulted task (answer_of outcome)) o.machine.last [] in
    let v : World = record w { activities = at_number w.activities id task None } in
    subst (Moves w) (passed (may activity.name activity.argument outcome) (stands_as v id e) next is).1
    (stands_moves w v id e refl (less_none w id task) (subst (λ (p : Option Orchestration). Adds (tasks_of p) e) (sym there) (goes_on_adds o (resulted task (answer_of outcome)) o.machine.last [])))

timed_moves : (w : World) (id : Id) (task stamp : ℕ) (there : Option Orchestration) (timer : Option ℕ) (next : World) → w.orchestrations id ≡ there → timed w id task stamp there timer ≡ Some next → Moves w next
timed_moves w id task stamp None timer next there is = absurd (cc is)
timed_moves w id task stamp (Some o) None next there is = absurd (cc is)
timed_moves w id task stamp (Some o) (Some due) next there is =
    let e = goes_on_from o (fired task) stamp [] in
    let v : World = record w { timers = at_number w.timers id task None } in
    subst (Moves w) (passed (nat_le due stamp && nat_le o.machine.last stamp) (stands_as v id e) next is).1
    (stands_moves w v id e refl (λ other number none. none) (subst (λ (p : Option Orchestration). Adds (tasks_of p) e) (sym there) (goes_on_adds o (fired task) stamp [])))

step_moves : (flows : Flows) (w : World) (label : Label) (next : World) → step flows w label ≡ Some next → Moves w next
step_moves flows w (take who number message) next is = taken_moves flows w who number message (w.taken who number) next (passes (is_request who number message) (taken w who number message (w.taken who number)) next is).1
step_moves flows w (deliver from to stamp) next is = delivered_moves flows w from to stamp (w.links from to) next is
step_moves flows w (finish id task outcome) next is = finished_moves w id task outcome (w.orchestrations id) (w.activities id task) next refl is
step_moves flows w (fire id task stamp) next is = timed_moves w id task stamp (w.orchestrations id) (w.timers id task) next refl is

-- ---- runs

-- activities are pending under the numbers of tasks alone
abbrev Within : World → Type 0
Within w = (id : Id) (task : ℕ) → tasks_in w id ≤ task → w.activities id task ≡ None

-- a task that is over: it is there, and no activity is pending under its number
abbrev IsOver : World → Id → ℕ → Type 0
IsOver w id task = (task < tasks_in w id) × (w.activities id task ≡ None)

within_moves : (w next : World) → Moves w next → Within w → Within next
within_moves w next moves within id task above = moves.still id task (inr above) (within id task (omega (arith, moves.more id, above)))

over_moves : (w next : World) (id : Id) (task : ℕ) → Moves w next → IsOver w id task → IsOver next id task
over_moves w next id task moves over = (omega (arith, moves.more id, over.0), moves.still id task (inl over.0) over.1)

-- the first step of labels that come to a world, and the others
goes_through : (f : World → Option World) (x : Option World) (last : World) → option_and_then f x ≡ Some last → (next : World) × (x ≡ Some next) × (f next ≡ Some last)
goes_through f None last is = absurd (cc is)
goes_through f (Some next) last is = (next, refl, is)

number_itself : (f : Id → ℕ → Option Activity) (id : Id) (task : ℕ) → at_number f id task None id task ≡ None
number_itself f id task = ap (λ (b : Bool). cond b None (f id task)) (and_true (id_eq id id) (task == task) (id_self id) (eq-eqb task task refl))

-- an activity that finishes was pending, and is over afterwards
ends : (w : World) (id : Id) (task : ℕ) (outcome : Outcome) (there : Option Orchestration) (pending : Option Activity) (next : World) → w.orchestrations id ≡ there → w.activities id task ≡ pending → Within w → finished w id task outcome there pending ≡ Some next
    → (w.activities id task ≡ None → ⊥) × IsOver next id task
ends w id task outcome None pending next there asks within is = absurd (cc is)
ends w id task outcome (Some o) None next there asks within is = absurd (cc is)
ends w id task outcome (Some o) (Some activity) next there asks within is = (not_none, (omega (arith, below, moves.more id), moves.still id task (inl below) (number_itself w.activities id task)))
  where
    e : Effect
    e = goes_on_from o (resulted task (answer_of outcome)) o.machine.last []

    v : World
    v = record w { activities = at_number w.activities id task None }

    moves : Moves v next
    moves =
        subst (Moves v) (passed (may activity.name activity.argument outcome) (stands_as v id e) next is).1
        (stands_moves v v id e refl (λ other number none. none) (subst (λ (p : Option Orchestration). Adds (tasks_of p) e) (sym there) (goes_on_adds o (resulted task (answer_of outcome)) o.machine.last [])))

    not_none : w.activities id task ≡ None → ⊥
    not_none none = let both : Some activity ≡ None = sym asks ∙ none in cc both

    below_or : (task < tasks_in w id) ⊎ (tasks_in w id ≤ task) → task < tasks_in w id
    below_or (inl below) = below
    below_or (inr above) = absurd (not_none (within id task above))

    below : task < tasks_in w id
    below = below_or (cases_lt task (tasks_in w id))

-- the end of a task, by its label
label_ends : (flows : Flows) (w : World) (label : Label) (next : World) (id : Id) (task : ℕ) → is_finish id task label ≡ true → Within w → step flows w label ≡ Some next → (w.activities id task ≡ None → ⊥) × IsOver next id task
label_ends flows w (take who number message) next id task is within moved = absurd (cc is)
label_ends flows w (deliver from to stamp) next id task is within moved = absurd (cc is)
label_ends flows w (fire other number stamp) next id task is within moved = absurd (cc is)
label_ends flows w (finish other number outcome) next id task is within moved =
    let parts = and_parts (id_eq id other) (task == number) is in
    let same = id_same id other parts.0 in
    let same_task = eqb-true task number parts.1 in
    let here : step flows w (finish id task outcome) ≡ Some next = subst (λ (t : ℕ). step flows w (finish id t outcome) ≡ Some next) (sym same_task) (subst (λ (i : Id). step flows w (finish i number outcome) ≡ Some next) (sym same) moved) in
    ends w id task outcome (w.orchestrations id) (w.activities id task) next refl refl within here

none_left : (flows : Flows) (run : List Label) (w last : World) (id : Id) (task : ℕ) → Within w → IsOver w id task → after_from flows w run ≡ Some last → finishes id task run ≡ 0
none_left flows [] w last id task within over is = refl
none_left flows (label ∷ run) w last id task within over is =
    let first = goes_through (λ next. after_from flows next run) (step flows w label) last is in
    let moves = step_moves flows w label first.0 first.1 in
    by first.0 first.1 (is_finish id task label) refl (none_left flows run first.0 last id task (within_moves w first.0 moves within) (over_moves w first.0 id task moves over) first.2)
  where
    by : (next : World) → step flows w label ≡ Some next → (b : Bool) → is_finish id task label ≡ b → finishes id task run ≡ 0 → cond b 1 0 + finishes id task run ≡ 0
    by next moved true is_one none = absurd ((label_ends flows w label next id task is_one within moved).0 over.1)
    by next moved false is_one none = omega (arith, none)

at_most_one : (flows : Flows) (run : List Label) (w last : World) (id : Id) (task : ℕ) → Within w → after_from flows w run ≡ Some last → finishes id task run ≤ 1
at_most_one flows [] w last id task within is = omega arith
at_most_one flows (label ∷ run) w last id task within is =
    let first = goes_through (λ next. after_from flows next run) (step flows w label) last is in
    let moves = step_moves flows w label first.0 first.1 in
    by first.0 first.1 first.2 (within_moves w first.0 moves within) (is_finish id task label) refl (at_most_one flows run first.0 last id task (within_moves w first.0 moves within) first.2)
  where
    by : (next : World) → step flows w label ≡ Some next → after_from flows next run ≡ Some last → Within next → (b : Bool) → is_finish id task label ≡ b → finishes id task run ≤ 1 → cond b 1 0 + finishes id task run ≤ 1
    by next moved comes still true is_one most = let none = none_left flows run next last id task still (label_ends flows w label next id task is_one within moved).1 comes in omega (arith, none)
    by next moved comes still false is_one most = omega (arith, most)

pub never_twice : (flows : Flows) (run : List Label) (w : World) → Legal flows run w → (id : Id) (task : ℕ) → finishes id task run ≤ 1
never_twice flows run w legal id task = at_most_one flows run empty w id task (λ other number above. refl) legal
