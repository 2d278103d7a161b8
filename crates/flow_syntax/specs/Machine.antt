-- The machine that runs one instance of a flow. It is resumed by each event that reaches it.
use Rattle.std.specs.Prelude.{ℕ, zero, suc, ◌+◌, ◌==◌, ◌&&◌, ◌||◌, List, [], ◌∷◌, ◌++◌, length, codes, Bool, true, false, not, nat_lt, nat_le, if◌then◌else◌, Option, Some, None, Result, Ok, Err, pos, negsuc, ℤ}
use Rattle.std.specs.Str.{bytes_eq}
use Rattle.dura_value.specs.declared.outcome.Outcome.{Outcome}
use Rattle.dura_value.specs.declared.outcome.Outcome.TheVariants as outcomes
use Rattle.dura_value.specs.declared.data.Scalar.{Scalar}
use Rattle.dura_value.specs.declared.data.Scalar.TheVariants as scalars
use Rattle.dura_value.specs.declared.data.Value.{Value}
use Rattle.dura_value.specs.declared.data.Value.TheVariants as values
use Rattle.dura_value.specs.Ids.{Id, orchestration}
use Rattle.dura_value.specs.Limits.{number_limit}
use Rattle.dura_value.specs.Messages.{Reply, to_nobody, to_task, Answer, is_done, has_failed, Spot, at_spot, spot_eq, is_among, set_of, entity_at, Body, start, result, operate, lock, release, Message}
use Rattle.flow_syntax.specs.Syntax.{Expression, scalar, Statement, let_be, spawn, call, subflow, ask, timer, event, await, await_all, await_any, signal, lock_in, if_then, while, try, return, fail, Block, nothing, first_then, Locked}
use Rattle.flow_syntax.specs.Eval.{◌>>=◌, wrong_type, Variables, set_in, eval, to_integer, to_truth, to_text, to_key, to_list, to_scalars, list_of}

-- ---- the machine

-- what a task is: an activity with its argument, an instance that was started, an entity that was asked, a timer with the
-- stamp that it is due at, the next event of a name, the grant of a set
pub data Kind : Type 0 where
  of_activity : (name : List ℕ) → (argument : Value) → Kind
  of_flow : Kind
  of_entity : (spot : Spot) → Kind
  of_timer : (due : ℕ) → Kind
  of_event : (name : List ℕ) → Kind
  of_grant : (set : List Spot) → Kind

-- a task's result, and its place in the order in which results arrived
pub record Arrival : Type 0 where
  pub outcome : Outcome
  pub order : ℕ

pub record Task : Type 0 where
  pub kind : Kind
  pub arrival : Option Arrival

-- An instance is outside of sections, or waits with this task for a set of entities, or is inside a section that holds it.
pub data Section : Type 0 where
  outside : Section
  acquiring : (task : ℕ) → (set : List Spot) → Section
  inside : (set : List Spot) → Section

-- what is still to run: a statement; the wait for a lock's grant; the markers at the end of a section's and of a try's body
pub data Todo : Type 0 where
  run : (statement : Statement) → Todo
  wait_lock : Todo
  unlock : Todo
  end_try : (variable : List ℕ) → (handler : Block) → Todo

-- not begun, running, or at its end
pub data Progress : Type 0 where
  unborn : Progress
  running : Progress
  done : (value : Value) → Progress
  failed : (text : List ℕ) → Progress

-- an event that no handle waited for yet
pub record Raised : Type 0 where
  pub name : List ℕ
  pub value : Value

-- An instance: its flow's body where the flow is known, who started it and is answered, its variables, what is still to run,
-- its tasks by number, how many results arrived, the events that are kept, its section, its last stamp, how many events
-- it had, and how far it has come.
pub record Machine : Type 0 where
  pub id : Id
  pub body : Option Block
  pub starter : Id
  pub reply : Reply
  pub variables : Variables
  pub rest : List Todo
  pub tasks : List Task
  pub arrivals : ℕ
  pub kept : List Raised
  pub section : Section
  pub last : ℕ
  pub events : ℕ
  pub progress : Progress

-- before its first event
abbrev pub new_machine : Id → Option Block → Machine
new_machine id body = record {
  id = id;
  body = body;
  starter = id;
  reply = to_nobody;
  variables = [];
  rest = [];
  tasks = [];
  arrivals = 0;
  kept = [];
  section = outside;
  last = 0;
  events = 0;
  progress = unborn;
}

-- what a machine asks the outside for: an activity, or a timer
pub data Asked : Type 0 where
  an_activity : (task : ℕ) → (name : List ℕ) → (argument : Value) → Asked
  a_timer : (task due : ℕ) → Asked

-- the machine afterwards, the messages that it sent and what it asked for, in order
pub record Resumed : Type 0 where
  pub machine : Machine
  pub sent : List Message
  pub asked : List Asked

abbrev pub only : Machine → Resumed
only m = record { machine = m; sent = []; asked = [] }

-- one after the other
abbrev pub and_then : Resumed → Resumed → Resumed
and_then before now = record { machine = now.machine; sent = before.sent ++ now.sent; asked = before.asked ++ now.asked }

-- ---- ends and faults

abbrev pub says : Machine → Id → Body → Message
says m to body = record { from = m.id; to = to; body = body }

abbrev pub releasing : Id → List Spot → List Message
releasing id [] = []
releasing id (spot ∷ set) = record { from = id; to = at_spot spot; body = release } ∷ releasing id set

-- whoever is inside a section leaves it with a release to each entity
abbrev pub leaving : Machine → Section → Resumed
leaving m (inside set) = record { machine = record m { section = outside }; sent = releasing m.id set; asked = [] }
leaving m other = only m

-- the instance that waits for this one's end is told
abbrev pub telling : Machine → Reply → Progress → List Message
telling m (to_task number) (done value) = says m m.starter (result (to_task number) (is_done value)) ∷ []
telling m (to_task number) (failed text) = says m m.starter (result (to_task number) (has_failed text)) ∷ []
telling m reply progress = []

-- It ends: it leaves its section, and then its starter is told.
abbrev pub ended : Machine → Progress → Resumed
ended m progress =
    and_then (leaving m m.section) (record { machine = record (leaving m m.section).machine { rest = []; progress = progress }; sent = telling m m.reply progress; asked = [] })

abbrev pub todo : Block → List Todo
todo nothing = []
todo (first_then statement rest) = run statement ∷ todo rest

-- A fault drops what is still to run up to and with the end of the nearest try, whose handler goes on; an end of a section
-- that it passes is kept to. With no try the instance fails.
abbrev pub thrown : Machine → List ℕ → List Todo → Resumed
thrown m fault [] = ended m (failed fault)
thrown m fault (end_try variable handler ∷ rest) = only (record m { variables = set_in m.variables variable (values.Text fault); rest = todo handler ++ rest })
thrown m fault (unlock ∷ rest) = and_then (leaving m m.section) (thrown (leaving m m.section).machine fault rest)
thrown m fault (other ∷ rest) = thrown m fault rest

-- ---- tasks

abbrev pub task_at : List Task → ℕ → Option Task
task_at [] number = None
task_at (task ∷ tasks) zero = Some task
task_at (task ∷ tasks) (suc number) = task_at tasks number

abbrev pub arrival_of : Option Task → Option Arrival
arrival_of None = None
arrival_of (Some task) = task.arrival

abbrev pub with_arrival : List Task → ℕ → Arrival → List Task
with_arrival [] number arrival = []
with_arrival (task ∷ tasks) zero arrival = record task { arrival = Some arrival } ∷ tasks
with_arrival (task ∷ tasks) (suc number) arrival = task ∷ with_arrival tasks number arrival

abbrev pub settled_once : Machine → ℕ → Outcome → Option Arrival → Machine
settled_once m task outcome None = record m { tasks = with_arrival m.tasks task (record { outcome = outcome; order = m.arrivals }); arrivals = m.arrivals + 1 }
settled_once m task outcome (Some before) = m

abbrev pub settled : Machine → ℕ → Outcome → Option Task → Machine
settled m number outcome None = m
settled m number outcome (Some task) = settled_once m number outcome task.arrival

-- the result of a task arrives; one that isn't there, or has a result, stays as it is
abbrev pub arrived : Machine → ℕ → Outcome → Machine
arrived m number outcome = settled m number outcome (task_at m.tasks number)

-- a new task, whose number is the next one
abbrev pub with_task : Machine → Kind → Machine
with_task m kind = record m { tasks = m.tasks ++ record { kind = kind; arrival = None } ∷ [] }

abbrev pub number : ℕ → Value
number n = values.Int (pos n)

-- a variable is the handle of the next task
abbrev pub with_handle : Machine → List ℕ → Machine
with_handle m variable = record m { variables = set_in m.variables variable (number (length m.tasks)) }

-- ---- what statements look at

-- a task by its number
abbrev pub to_handle : List Task → Value → Result ℕ (List ℕ)
to_handle tasks (values.Int (pos n)) = if nat_lt n (length tasks) then Ok n else Err (codes "handle")
to_handle tasks (values.Int (negsuc n)) = Err (codes "handle")
to_handle tasks other = wrong_type

abbrev pub scalar_handle : List Task → Scalar → Result ℕ (List ℕ)
scalar_handle tasks (scalars.Int (pos n)) = if nat_lt n (length tasks) then Ok n else Err (codes "handle")
scalar_handle tasks (scalars.Int (negsuc n)) = Err (codes "handle")
scalar_handle tasks other = wrong_type

abbrev pub scalar_handles : List Task → List Scalar → Result (List ℕ) (List ℕ)
scalar_handles tasks [] = Ok []
scalar_handles tasks (s ∷ scalars) = scalar_handle tasks s >>= λ one. scalar_handles tasks scalars >>= λ rest. Ok (one ∷ rest)

abbrev pub to_handles : List Task → Value → Result (List ℕ) (List ℕ)
to_handles tasks value = to_list value >>= λ parts. scalar_handles tasks parts

-- the results of these tasks, once all are there
abbrev pub one_more : Option Arrival → Option (List Outcome) → Option (List Outcome)
one_more (Some arrival) (Some outcomes) = Some (arrival.outcome ∷ outcomes)
one_more one rest = None

abbrev pub all_arrived : List Task → List ℕ → Option (List Outcome)
all_arrived tasks [] = Some []
all_arrived tasks (handle ∷ handles) = one_more (arrival_of (task_at tasks handle)) (all_arrived tasks handles)

-- the values of results, or the first failure in their order
abbrev pub all_values : List Outcome → Result (List Value) (List ℕ)
all_values [] = Ok []
all_values (outcomes.Done value ∷ more) = all_values more >>= λ rest. Ok (value ∷ rest)
all_values (outcomes.Failed text ∷ more) = Err text

-- of two results with their places the one that came first, the earlier place where they came at once
pub record Candidate : Type 0 where
  pub place : ℕ
  pub order : ℕ

abbrev pub sooner : ℕ → Option Arrival → Option Candidate → Option Candidate
sooner place None best = best
sooner place (Some arrival) None = Some (record { place = place; order = arrival.order })
sooner place (Some arrival) (Some best) = if nat_le arrival.order best.order then Some (record { place = place; order = arrival.order }) else Some best

-- the place of the task whose result came first, if one is there
abbrev pub first_arrived : List Task → ℕ → List ℕ → Option Candidate
first_arrived tasks place [] = None
first_arrived tasks place (handle ∷ handles) = sooner place (arrival_of (task_at tasks handle)) (first_arrived tasks (suc place) handles)

-- whether an ask or a started flow has no result yet
abbrev pub is_call : Kind → Bool
is_call of_flow = true
is_call (of_entity spot) = true
is_call other = false

abbrev pub is_open : Option Arrival → Bool
is_open None = true
is_open (Some arrival) = false

abbrev pub has_open_call : List Task → Bool
has_open_call [] = false
has_open_call (task ∷ tasks) = (is_call task.kind && is_open task.arrival) || has_open_call tasks

abbrev pub asks_spot : Spot → Kind → Bool
asks_spot spot (of_entity other) = spot_eq spot other
asks_spot spot other = false

-- whether an ask of this entity has no result yet
abbrev pub has_open_ask : Spot → List Task → Bool
has_open_ask spot [] = false
has_open_ask spot (task ∷ tasks) = (asks_spot spot task.kind && is_open task.arrival) || has_open_ask spot tasks

-- Inside a section an ask goes to a locked entity whose ask before has its result.
abbrev pub may_ask : Section → Spot → List Task → Bool
may_ask (inside set) spot tasks = is_among spot set && not (has_open_ask spot tasks)
may_ask other spot tasks = true

-- Inside a section no signal goes to a locked entity.
abbrev pub may_signal : Section → Spot → Bool
may_signal (inside set) spot = not (is_among spot set)
may_signal other spot = true

-- Inside a section no flow is started.
abbrev pub may_start : Section → Bool
may_start (inside set) = false
may_start other = true

-- A section begins outside of others, with no ask and no started flow open.
abbrev pub may_lock : Section → List Task → Bool
may_lock outside tasks = not (has_open_call tasks)
may_lock other tasks = false

abbrev pub spot_of : (class key : List ℕ) → Spot
spot_of class key = record { class = class; key = key }

-- the keys of a lock are evaluated in order
abbrev pub eval_spots : Variables → List Locked → Result (List Spot) (List ℕ)
eval_spots variables [] = Ok []
eval_spots variables (one ∷ more) =
    (eval variables one.key >>= to_key) >>= λ key. eval_spots variables more >>= λ rest. Ok (spot_of one.class key ∷ rest)

-- ---- local steps

-- a machine stays as it is, or takes a step
pub data Next : Type 0 where
  stays : Resumed → Next
  goes : Resumed → Next

abbrev pub throws : Machine → List ℕ → Resumed
throws m fault = thrown m fault m.rest

-- a step that needs something, or else throws its fault
abbrev pub having : {X : Type 0} → Machine → Result X (List ℕ) → (X → Resumed) → Next
having m (Ok x) f = goes (f x)
having m (Err fault) f = goes (throws m fault)

-- by the rule on sections, or else the fault `lockrule`
abbrev pub by_rule : Machine → Bool → Resumed → Resumed
by_rule m true resumed = resumed
by_rule m false resumed = throws m (codes "lockrule")

abbrev pub scheduled : Machine → (activity : List ℕ) → Value → Resumed
scheduled m activity argument = record { machine = with_task m (of_activity activity argument); sent = []; asked = an_activity (length m.tasks) activity argument ∷ [] }

abbrev pub calls : Machine → (variable activity : List ℕ) → Value → Resumed
calls m variable activity argument =
    scheduled (record m { rest = run (await variable (scalar (scalars.Int (pos (length m.tasks))))) ∷ m.rest }) activity argument

abbrev pub starts : Machine → (variable flow key : List ℕ) → Value → Resumed
starts m variable flow key argument = record {
  machine = with_task (with_handle m variable) of_flow;
  sent = says m (orchestration flow key) (start argument (to_task (length m.tasks))) ∷ [];
  asked = [];
}

abbrev pub asks : Machine → (variable : List ℕ) → Spot → (operation : List ℕ) → Value → Resumed
asks m variable spot operation argument = record {
  machine = with_task (with_handle m variable) (of_entity spot);
  sent = says m (at_spot spot) (operate operation argument (to_task (length m.tasks))) ∷ [];
  asked = [];
}

abbrev pub signals : Machine → Spot → (operation : List ℕ) → Value → Resumed
signals m spot operation argument = record { machine = m; sent = says m (at_spot spot) (operate operation argument to_nobody) ∷ []; asked = [] }

-- stamps are below this
abbrev pub end_of_time : ℕ
end_of_time = number_limit

abbrev pub is_due_in_time : Machine → (variable : List ℕ) → ℕ → Resumed
is_due_in_time m variable due =
    if nat_lt due end_of_time
    then record { machine = with_task (with_handle m variable) (of_timer due); sent = []; asked = a_timer (length m.tasks) due ∷ [] }
    else throws m (codes "overflow")

-- a timer is due at the last stamp plus its delay
abbrev pub sets_timer : Machine → (variable : List ℕ) → ℤ → Resumed
sets_timer m variable (pos delay) = is_due_in_time m variable (m.last + delay)
sets_timer m variable (negsuc n) = throws m (codes "range")

-- the oldest event of a name that is kept, and the others
abbrev pub kept_value : List ℕ → List Raised → Option Value
kept_value name [] = None
kept_value name (one ∷ more) = if bytes_eq one.name name then Some one.value else kept_value name more

abbrev pub without_kept : List ℕ → List Raised → List Raised
without_kept name [] = []
without_kept name (one ∷ more) = if bytes_eq one.name name then more else one ∷ without_kept name more

abbrev pub with_kept : Machine → (name : List ℕ) → (task : ℕ) → Option Value → Machine
with_kept m name task None = m
with_kept m name task (Some value) = arrived (record m { kept = without_kept name m.kept }) task (outcomes.Done value)

-- the handle of the next event of a name: the oldest one that is kept, at once, or else a later one
abbrev pub listens : Machine → (variable name : List ℕ) → Resumed
listens m variable name = only (with_kept (with_task (with_handle m variable) (of_event name)) name (length m.tasks) (kept_value name m.kept))

abbrev pub sets : Machine → (variable : List ℕ) → Value → Resumed
sets m variable value = only (record m { variables = set_in m.variables variable value })

-- the machine as it was where a task has no result yet
abbrev pub gets : Machine → (variable : List ℕ) → Outcome → Resumed
gets m variable (outcomes.Done value) = sets m variable value
gets m variable (outcomes.Failed text) = throws m text

abbrev pub awaited : Machine → Machine → (variable : List ℕ) → Option Arrival → Next
awaited was m variable None = stays (only was)
awaited was m variable (Some arrival) = goes (gets m variable arrival.outcome)

abbrev pub awaited_all : Machine → Machine → (variable : List ℕ) → Option (List Outcome) → Next
awaited_all was m variable None = stays (only was)
awaited_all was m variable (Some results) = having m (all_values results >>= λ given. to_scalars given >>= list_of) (sets m variable)

abbrev pub awaited_any : Machine → Machine → (variable : List ℕ) → (handles : List ℕ) → Option Candidate → Next
awaited_any was m variable [] best = goes (throws m (codes "empty"))
awaited_any was m variable (handle ∷ handles) None = stays (only was)
awaited_any was m variable (handle ∷ handles) (Some best) = goes (sets m variable (number best.place))

-- a wait for handles, or the fault that they throw
abbrev pub waits_for : {X : Type 0} → Machine → Result X (List ℕ) → (X → Next) → Next
waits_for m (Ok x) f = f x
waits_for m (Err fault) f = goes (throws m fault)

-- the lock goes to the first entity of its set
abbrev pub locking : Machine → ℕ → List Spot → Option Id → List Message
locking m task set None = []
locking m task set (Some first) = says m first (lock m.id task set 0) ∷ []

abbrev pub locks : Machine → List Spot → Block → Resumed
locks m set body = record {
  machine = record (with_task m (of_grant set)) { section = acquiring (length m.tasks) set; rest = wait_lock ∷ todo body ++ unlock ∷ m.rest };
  sent = locking m (length m.tasks) set (entity_at set 0);
  asked = [];
}

abbrev pub branches : Machine → Bool → Block → Block → Resumed
branches m true yes_body no_body = only (record m { rest = todo yes_body ++ m.rest })
branches m false yes_body no_body = only (record m { rest = todo no_body ++ m.rest })

abbrev pub loops : Machine → Bool → Expression → Block → Resumed
loops m true test body = only (record m { rest = todo body ++ run (while test body) ∷ m.rest })
loops m false test body = only m

-- The step of a statement, of a machine whose rest is behind it. `was` has it still before it.
abbrev pub statement_step : Machine → Machine → Statement → Next
statement_step was m (let_be variable value) = having m (eval m.variables value) (sets m variable)
statement_step was m (spawn variable activity argument) = having m (eval m.variables argument) (scheduled (with_handle m variable) activity)
statement_step was m (call variable activity argument) = having m (eval m.variables argument) (calls m variable activity)
statement_step was m (subflow variable flow key argument) =
    having m ((eval m.variables key >>= to_key) >>= λ k. eval m.variables argument >>= λ a. Ok (k, a))
    (λ (p : List ℕ × Value). by_rule m (may_start m.section) (starts m variable flow p.0 p.1))
statement_step was m (ask variable class key operation argument) =
    having m ((eval m.variables key >>= to_key) >>= λ k. eval m.variables argument >>= λ a. Ok (k, a))
    (λ (p : List ℕ × Value). by_rule m (may_ask m.section (spot_of class p.0) m.tasks) (asks m variable (spot_of class p.0) operation p.1))
statement_step was m (timer variable delay) = having m (eval m.variables delay >>= to_integer) (sets_timer m variable)
statement_step was m (event variable name) = goes (listens m variable name)
statement_step was m (await variable handle) =
    waits_for m (eval m.variables handle >>= to_handle m.tasks) (λ n. awaited was m variable (arrival_of (task_at m.tasks n)))
statement_step was m (await_all variable handles) = waits_for m (eval m.variables handles >>= to_handles m.tasks) (λ ns. awaited_all was m variable (all_arrived m.tasks ns))
statement_step was m (await_any variable handles) = waits_for m (eval m.variables handles >>= to_handles m.tasks) (λ ns. awaited_any was m variable ns (first_arrived m.tasks 0 ns))
statement_step was m (signal class key operation argument) =
    having m ((eval m.variables key >>= to_key) >>= λ k. eval m.variables argument >>= λ a. Ok (k, a))
    (λ (p : List ℕ × Value). by_rule m (may_signal m.section (spot_of class p.0)) (signals m (spot_of class p.0) operation p.1))
statement_step was m (lock_in entities body) =
    having m (eval_spots m.variables entities) (λ (spots : List Spot). by_rule m (may_lock m.section m.tasks) (locks m (set_of spots) body))
statement_step was m (if_then test yes_body no_body) = having m (eval m.variables test >>= to_truth) (λ b. branches m b yes_body no_body)
statement_step was m (while test body) = having m (eval m.variables test >>= to_truth) (λ b. loops m b test body)
statement_step was m (try body variable handler) = goes (only (record m { rest = todo body ++ end_try variable handler ∷ m.rest }))
statement_step was m (return value) = having m (eval m.variables value) (λ v. ended m (done v))
statement_step was m (fail text) = having m (eval m.variables text >>= to_text) (throws m)

-- The wait for a lock is over once the section isn't acquiring any more.
abbrev pub lock_step : Machine → Machine → Section → Next
lock_step was m (acquiring task set) = stays (only was)
lock_step was m other = goes (only m)

-- The step of a running machine with this still to run. At its end it is done with null, which is no step.
abbrev pub running_step : Machine → List Todo → Next
running_step was [] = stays (ended was (done values.Null))
running_step was (run statement ∷ rest) = statement_step was (record was { rest = rest }) statement
running_step was (wait_lock ∷ rest) = lock_step was (record was { rest = rest }) was.section
running_step was (unlock ∷ rest) = goes (leaving (record was { rest = rest }) was.section)
running_step was (end_try variable handler ∷ rest) = goes (only (record was { rest = rest }))

abbrev pub step_of : Machine → Progress → Next
step_of m running = running_step m m.rest
step_of m other = stays (only m)

abbrev pub next_of : Machine → Next
next_of m = step_of m m.progress

-- the most steps from one event to the next
abbrev pub most_steps : ℕ
most_steps = 10_000

-- Local steps until it blocks or ends; a machine that would take one more than these ends as failed with `budget`.
unfoldable pub go_on : ℕ → Resumed → Next → Resumed
go_on steps before (stays r) = and_then before r
go_on zero before (goes r) = and_then before (ended before.machine (failed (codes "budget")))
go_on (suc steps) before (goes r) = let now = and_then before r in go_on steps now (next_of now.machine)

abbrev pub go : ℕ → Machine → Resumed
go steps m = go_on steps (only m) (next_of m)

-- ---- events

-- The start, the result of a task, a raised event, a timer, a grant.
pub data Event : Type 0 where
  started : (sender : Id) → (argument : Value) → (reply : Reply) → Event
  resulted : (task : ℕ) → (answer : Answer) → Event
  was_raised : (name : List ℕ) → (value : Value) → Event
  fired : (task : ℕ) → Event
  was_granted : (task : ℕ) → Event

-- what an answer is to a task
abbrev pub outcome_of : Answer → Option Outcome
outcome_of (is_done value) = Some (outcomes.Done value)
outcome_of (has_failed text) = Some (outcomes.Failed text)
outcome_of other = None

abbrev pub with_answer : Machine → ℕ → Option Outcome → Machine
with_answer m task None = m
with_answer m task (Some outcome) = arrived m task outcome

abbrev pub listens_for : List ℕ → Kind → Bool
listens_for name (of_event other) = bytes_eq name other
listens_for name other = false

abbrev pub later_by_one : Option ℕ → Option ℕ
later_by_one None = None
later_by_one (Some place) = Some (suc place)

-- the oldest handle of an event's name that waits
abbrev pub oldest_listener : List ℕ → List Task → Option ℕ
oldest_listener name [] = None
oldest_listener name (task ∷ tasks) = if listens_for name task.kind && is_open task.arrival then Some 0 else later_by_one (oldest_listener name tasks)

abbrev pub heard : Machine → (name : List ℕ) → Value → Option ℕ → Machine
heard m name value None = record m { kept = m.kept ++ record { name = name; value = value } ∷ [] }
heard m name value (Some task) = arrived m task (outcomes.Done value)

-- a grant reaches the one task that waits for it, and the section begins
abbrev pub granted_in : Machine → ℕ → Section → Machine
granted_in m task (acquiring waited set) = if task == waited then record (arrived m task (outcomes.Done values.Null)) { section = inside set } else m
granted_in m task other = m

-- what an event changes in a machine that runs
abbrev pub recorded : Machine → Event → Machine
recorded m (started sender argument reply) = m
recorded m (resulted task answer) = with_answer m task (outcome_of answer)
recorded m (was_raised name value) = heard m name value (oldest_listener name m.tasks)
recorded m (fired task) = arrived m task (outcomes.Done values.Null)
recorded m (was_granted task) = granted_in m task m.section

-- what the grant of a set changes in a machine that has ended: it leaves the section at once
abbrev pub granted_late : Machine → Event → Resumed
granted_late m (was_granted task) = let now = granted_in m task m.section in leaving now now.section
granted_late m other = only m

-- the most events of one instance
abbrev pub most_events : ℕ
most_events = 10_000

-- an event that a running machine goes on from, unless it is one too many
abbrev pub goes_on : Machine → Resumed
goes_on m = if nat_lt m.events most_events then go most_steps (record m { events = m.events + 1 }) else ended m (failed (codes "history"))

-- It begins with its argument, where its flow is known.
abbrev pub begins : Machine → Event → Option Block → Resumed
begins m (started sender argument reply) (Some body) =
    goes_on (record m { starter = sender; reply = reply; variables = (codes "arg", argument) ∷ []; rest = todo body; progress = running })
begins m (started sender argument reply) None = ended (record m { starter = sender; reply = reply }) (failed (codes "unknown"))
begins m other body = ended m (failed (codes "unknown"))

abbrev pub resumed_by : Machine → Event → Progress → Resumed
resumed_by m e unborn = begins m e m.body
resumed_by m e running = goes_on (recorded m e)
resumed_by m e over = granted_late m e

-- An event at this stamp, and what the machine makes of it.
abbrev pub resume : Machine → Event → ℕ → Resumed
resume m e stamp = let now = record m { last = stamp } in resumed_by now e now.progress

-- an event of a history, with its stamp
pub record Past : Type 0 where
  pub event : Event
  pub stamp : ℕ

-- the machine that a history makes
abbrev pub replayed : Machine → List Past → Machine
replayed m [] = m
replayed m (past ∷ history) = replayed (resume m past.event past.stamp).machine history
