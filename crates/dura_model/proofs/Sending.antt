-- A machine stays the instance that it is, at its stamp, and all that it sends comes from it.
use Rattle.std.proofs.Common.{◌≡◌, ◌+◌, ◌==◌, ℕ, zero, suc, length, Bool, true, false, cond, List, [], ◌∷◌, ◌++◌, Option, Some, None, Result, Ok, Err, refl, sym, subst, ◌∙◌}
use Rattle.std.specs.Prelude.{ℤ, pos, negsuc, codes, nat_lt}
use Rattle.dura_value.specs.declared.data.Value.{Value}
use Rattle.dura_value.specs.declared.data.Value.TheVariants as values
use Rattle.dura_value.specs.declared.outcome.Outcome.{Outcome}
use Rattle.dura_value.specs.declared.outcome.Outcome.TheVariants as outcomes
use Rattle.dura_value.specs.Ids.{Id}
use Rattle.dura_value.specs.Messages.{Spot, set_of, entity_at, Reply, to_nobody, to_task, to_request, Message}
use Rattle.flow_syntax.specs.Syntax.{Expression, Statement, let_be, spawn, call, subflow, ask, timer, event as next_event, await, await_all, await_any, signal, lock_in, if_then, while, try, return, fail, Block}
use Rattle.flow_syntax.specs.Eval.{◌>>=◌, eval, to_integer, to_truth, to_text, to_key, to_scalars, list_of}
use Rattle.flow_syntax.specs.Machine.{Machine, Task, Arrival, Section, outside, acquiring, inside, Todo, run, wait_lock, unlock, end_try, Progress, unborn, running, done, failed, Asked, a_timer, releasing, telling, locking, without_kept, todo, Resumed, only, and_then, leaving, ended, thrown, task_at, arrival_of, settled_once, settled, arrived, of_timer, of_event, with_task, with_handle, to_handle, to_handles, all_arrived, all_values, Candidate, first_arrived, may_ask, may_signal, may_start, may_lock, spot_of, eval_spots, Next, stays, goes, throws, having, by_rule, scheduled, calls, starts, asks, signals, end_of_time, sets_timer, kept_value, with_kept, listens, sets, gets, awaited, awaited_all, awaited_any, waits_for, locks, branches, loops, statement_step, lock_step, running_step, step_of, next_of, most_steps, go_on, go, Event, started, resulted, fired, was_granted, outcome_of, with_answer, oldest_listener, heard, granted_in, recorded, granted_late, most_events, goes_on, begins, resumed_by, resume, was_raised as was_an_event}

-- all of these are sent by this one
abbrev pub AllFrom : Id → List Message → Type 0
AllFrom id [] = Unit {0}
AllFrom id (message ∷ messages) = (message.from ≡ id) × AllFrom id messages

pub from_both : (id : Id) (one other : List Message) → AllFrom id one → AllFrom id other → AllFrom id (one ++ other)
from_both id [] other all also = also
from_both id (message ∷ messages) other all also = (all.0, from_both id messages other all.1 also)

-- the machine is this instance at this stamp, and what was sent comes from it
pub record Keeps (id : Id) (last : ℕ) (r : Resumed) : Type 0 where
  pub same : r.machine.id ≡ id
  pub stamp : r.machine.last ≡ last
  pub sent : AllFrom id r.sent

keeps_silent : (m : Machine) (rest : List Asked) → Keeps m.id m.last (record { machine = m; sent = []; asked = rest })
keeps_silent m rest = record { same = refl; stamp = refl; sent = tt }

keeps_both : (id : Id) (last : ℕ) (before now : Resumed) → Keeps id last before → Keeps before.machine.id before.machine.last now → Keeps id last (and_then before now)
keeps_both id last before now one two = record {
  same = two.same ∙ one.same;
  stamp = two.stamp ∙ one.stamp;
  sent = from_both id before.sent now.sent one.sent (subst (λ (i : Id). AllFrom i now.sent) one.same two.sent);
}

-- ---- ends and faults

releasing_from : (id : Id) (set : List Spot) → AllFrom id (releasing id set)
releasing_from id [] = tt
releasing_from id (spot ∷ set) = (refl, releasing_from id set)

leaving_keeps : (m : Machine) (section : Section) → Keeps m.id m.last (leaving m section)
leaving_keeps m outside = keeps_silent m []
leaving_keeps m (acquiring task set) = keeps_silent m []
leaving_keeps m (inside set) = record { same = refl; stamp = refl; sent = releasing_from m.id set }

telling_from : (m : Machine) (reply : Reply) (progress : Progress) → AllFrom m.id (telling m reply progress)
telling_from m to_nobody progress = tt
telling_from m (to_request number) progress = tt
telling_from m (to_task number) unborn = tt
telling_from m (to_task number) running = tt
telling_from m (to_task number) (done value) = (refl, tt)
telling_from m (to_task number) (failed text) = (refl, tt)

ended_keeps : (m : Machine) (progress : Progress) → Keeps m.id m.last (ended m progress)
ended_keeps m progress =
    keeps_both m.id m.last (leaving m m.section) (record { machine = record (leaving m m.section).machine { rest = []; progress = progress }; sent = telling m m.reply progress; asked = [] }) (leaving_keeps m m.section)
    (record { same = refl; stamp = refl; sent = subst (λ (i : Id). AllFrom i (telling m m.reply progress)) (sym (leaving_keeps m m.section).same) (telling_from m m.reply progress) })

thrown_keeps : (m : Machine) (fault : List ℕ) (rest : List Todo) → Keeps m.id m.last (thrown m fault rest)
thrown_keeps m fault [] = ended_keeps m (failed fault)
thrown_keeps m fault (end_try variable handler ∷ rest) = record { same = refl; stamp = refl; sent = tt }
thrown_keeps m fault (unlock ∷ rest) = keeps_both m.id m.last (leaving m m.section) (thrown (leaving m m.section).machine fault rest) (leaving_keeps m m.section) (thrown_keeps (leaving m m.section).machine fault rest)
thrown_keeps m fault (run statement ∷ rest) = thrown_keeps m fault rest
thrown_keeps m fault (wait_lock ∷ rest) = thrown_keeps m fault rest

throws_keeps : (m : Machine) (fault : List ℕ) → Keeps m.id m.last (throws m fault)
throws_keeps m fault = thrown_keeps m fault m.rest

-- ---- tasks

-- the same instance at the same stamp
abbrev IsAlike : Machine → Machine → Type 0
IsAlike m after = (after.id ≡ m.id) × (after.last ≡ m.last)

settled_alike : (m : Machine) (number : ℕ) (outcome : Outcome) (task : Option Task) → IsAlike m (settled m number outcome task)
settled_alike m number outcome None = (refl, refl)
settled_alike m number outcome (Some task) = by task.arrival
  where
    by : (before : Option Arrival) → IsAlike m (settled_once m number outcome before)
    by None = (refl, refl)
    by (Some before) = (refl, refl)

arrived_alike : (m : Machine) (number : ℕ) (outcome : Outcome) → IsAlike m (arrived m number outcome)
arrived_alike m number outcome = settled_alike m number outcome (task_at m.tasks number)

-- ---- statements

abbrev NextKeeps : Machine → Next → Type 0
NextKeeps m (stays r) = Keeps m.id m.last r
NextKeeps m (goes r) = Keeps m.id m.last r

having_keeps : {X : Type 0} (m : Machine) (x : Result X (List ℕ)) (f : X → Resumed) → ((given : X) → Keeps m.id m.last (f given)) → NextKeeps m (having m x f)
having_keeps m (Ok x) f keeps = keeps x
having_keeps m (Err fault) f keeps = throws_keeps m fault

waits_keeps : {X : Type 0} (m : Machine) (x : Result X (List ℕ)) (f : X → Next) → ((given : X) → NextKeeps m (f given)) → NextKeeps m (waits_for m x f)
waits_keeps m (Ok x) f keeps = keeps x
waits_keeps m (Err fault) f keeps = throws_keeps m fault

by_rule_keeps : (m : Machine) (may : Bool) (r : Resumed) → Keeps m.id m.last r → Keeps m.id m.last (by_rule m may r)
by_rule_keeps m true r keeps = keeps
by_rule_keeps m false r keeps = throws_keeps m _

timer_keeps : (m : Machine) (variable : List ℕ) (due : ℕ) (in_time : Bool) → Keeps m.id m.last (cond in_time (record { machine = with_task (with_handle m variable) (of_timer due); sent = []; asked = a_timer (length m.tasks) due ∷ [] }) (throws m (codes "overflow")))
timer_keeps m variable due true = record { same = refl; stamp = refl; sent = tt }
timer_keeps m variable due false = throws_keeps m _

sets_timer_keeps : (m : Machine) (variable : List ℕ) (delay : ℤ) → Keeps m.id m.last (sets_timer m variable delay)
sets_timer_keeps m variable (pos delay) = timer_keeps m variable (m.last + delay) (nat_lt (m.last + delay) end_of_time)
sets_timer_keeps m variable (negsuc n) = throws_keeps m _

with_kept_alike : (m : Machine) (name : List ℕ) (task : ℕ) (value : Option Value) → IsAlike m (with_kept m name task value)
with_kept_alike m name task None = (refl, refl)
with_kept_alike m name task (Some value) = arrived_alike (record m { kept = without_kept name m.kept }) task (outcomes.Done value)

listens_keeps : (m : Machine) (variable name : List ℕ) → Keeps m.id m.last (listens m variable name)
listens_keeps m variable name =
    let alike = with_kept_alike (with_task (with_handle m variable) (of_event name)) name (length m.tasks) (kept_value name m.kept) in record { same = alike.0; stamp = alike.1; sent = tt }

gets_keeps : (m : Machine) (variable : List ℕ) (outcome : Outcome) → Keeps m.id m.last (gets m variable outcome)
gets_keeps m variable (outcomes.Done value) = record { same = refl; stamp = refl; sent = tt }
gets_keeps m variable (outcomes.Failed text) = throws_keeps m text

-- one that waits stays as it was
waiting_keeps : (was m : Machine) → IsAlike m was → Keeps m.id m.last (only was)
waiting_keeps was m alike = record { same = alike.0; stamp = alike.1; sent = tt }

awaited_keeps : (was m : Machine) (variable : List ℕ) (arrival : Option Arrival) → IsAlike m was → NextKeeps m (awaited was m variable arrival)
awaited_keeps was m variable None alike = waiting_keeps was m alike
awaited_keeps was m variable (Some arrival) alike = gets_keeps m variable arrival.outcome

awaited_all_keeps : (was m : Machine) (variable : List ℕ) (results : Option (List Outcome)) → IsAlike m was → NextKeeps m (awaited_all was m variable results)
awaited_all_keeps was m variable None alike = waiting_keeps was m alike
awaited_all_keeps was m variable (Some results) alike = having_keeps m (all_values results >>= λ given. to_scalars given >>= list_of) (sets m variable) (λ value. record { same = refl; stamp = refl; sent = tt })

awaited_any_keeps : (was m : Machine) (variable : List ℕ) (handles : List ℕ) (best : Option Candidate) → IsAlike m was → NextKeeps m (awaited_any was m variable handles best)
awaited_any_keeps was m variable [] best alike = throws_keeps m _
awaited_any_keeps was m variable (handle ∷ handles) None alike = waiting_keeps was m alike
awaited_any_keeps was m variable (handle ∷ handles) (Some best) alike = record { same = refl; stamp = refl; sent = tt }

branches_keeps : (m : Machine) (b : Bool) (yes_body no_body : Block) → Keeps m.id m.last (branches m b yes_body no_body)
branches_keeps m true yes_body no_body = record { same = refl; stamp = refl; sent = tt }
branches_keeps m false yes_body no_body = record { same = refl; stamp = refl; sent = tt }

loops_keeps : (m : Machine) (b : Bool) (test : Expression) (body : Block) → Keeps m.id m.last (loops m b test body)
loops_keeps m true test body = record { same = refl; stamp = refl; sent = tt }
loops_keeps m false test body = keeps_silent m []

locking_from : (m : Machine) (task : ℕ) (set : List Spot) (first : Option Id) → AllFrom m.id (locking m task set first)
locking_from m task set None = tt
locking_from m task set (Some first) = (refl, tt)

statement_keeps : (was m : Machine) (statement : Statement) → IsAlike m was → NextKeeps m (statement_step was m statement)
statement_keeps was m (let_be variable value) alike = having_keeps m (eval m.variables value) (sets m variable) (λ given. record { same = refl; stamp = refl; sent = tt })
statement_keeps was m (spawn variable activity argument) alike = having_keeps m (eval m.variables argument) (scheduled (with_handle m variable) activity) (λ given. record { same = refl; stamp = refl; sent = tt })
statement_keeps was m (call variable activity argument) alike = having_keeps m (eval m.variables argument) (calls m variable activity) (λ given. record { same = refl; stamp = refl; sent = tt })
statement_keeps was m (subflow variable flow key argument) alike =
    having_keeps m ((eval m.variables key >>= to_key) >>= λ k. eval m.variables argument >>= λ a. Ok (k, a)) _
    (λ p. by_rule_keeps m (may_start m.section) (starts m variable flow p.0 p.1) (record { same = refl; stamp = refl; sent = (refl, tt) }))
statement_keeps was m (ask variable class key operation argument) alike =
    having_keeps m ((eval m.variables key >>= to_key) >>= λ k. eval m.variables argument >>= λ a. Ok (k, a)) _
    (λ p. by_rule_keeps m (may_ask m.section (spot_of class p.0) m.tasks) (asks m variable (spot_of class p.0) operation p.1) (record { same = refl; stamp = refl; sent = (refl, tt) }))
statement_keeps was m (timer variable delay) alike = having_keeps m (eval m.variables delay >>= to_integer) (sets_timer m variable) (sets_timer_keeps m variable)
statement_keeps was m (next_event variable name) alike = listens_keeps m variable name
statement_keeps was m (await variable handle) alike =
    waits_keeps m (eval m.variables handle >>= to_handle m.tasks) (λ n. awaited was m variable (arrival_of (task_at m.tasks n))) (λ n. awaited_keeps was m variable (arrival_of (task_at m.tasks n)) alike)
statement_keeps was m (await_all variable handles) alike =
    waits_keeps m (eval m.variables handles >>= to_handles m.tasks) (λ ns. awaited_all was m variable (all_arrived m.tasks ns)) (λ ns. awaited_all_keeps was m variable (all_arrived m.tasks ns) alike)
statement_keeps was m (await_any variable handles) alike =
    waits_keeps m (eval m.variables handles >>= to_handles m.tasks) (λ ns. awaited_any was m variable ns (first_arrived m.tasks 0 ns)) (λ ns. awaited_any_keeps was m variable ns (first_arrived m.tasks 0 ns) alike)
statement_keeps was m (signal class key operation argument) alike =
    having_keeps m ((eval m.variables key >>= to_key) >>= λ k. eval m.variables argument >>= λ a. Ok (k, a)) _
    (λ p. by_rule_keeps m (may_signal m.section (spot_of class p.0)) (signals m (spot_of class p.0) operation p.1) (record { same = refl; stamp = refl; sent = (refl, tt) }))
statement_keeps was m (lock_in entities body) alike =
    having_keeps m (eval_spots m.variables entities) _
    (λ spots. by_rule_keeps m (may_lock m.section m.tasks) (locks m (set_of spots) body) (record { same = refl; stamp = refl; sent = locking_from m (length m.tasks) (set_of spots) (entity_at (set_of spots) 0) }))
statement_keeps was m (if_then test yes_body no_body) alike = having_keeps m (eval m.variables test >>= to_truth) (λ b. branches m b yes_body no_body) (λ b. branches_keeps m b yes_body no_body)
statement_keeps was m (while test body) alike = having_keeps m (eval m.variables test >>= to_truth) (λ b. loops m b test body) (λ b. loops_keeps m b test body)
statement_keeps was m (try body variable handler) alike = record { same = refl; stamp = refl; sent = tt }
statement_keeps was m (return value) alike = having_keeps m (eval m.variables value) (λ v. ended m (done v)) (λ v. ended_keeps m (done v))
statement_keeps was m (fail text) alike = having_keeps m (eval m.variables text >>= to_text) (throws m) (throws_keeps m)

lock_keeps : (was m : Machine) (section : Section) → IsAlike m was → NextKeeps m (lock_step was m section)
lock_keeps was m outside alike = keeps_silent m []
lock_keeps was m (acquiring task set) alike = waiting_keeps was m alike
lock_keeps was m (inside set) alike = keeps_silent m []

running_keeps : (m : Machine) (rest : List Todo) → NextKeeps m (running_step m rest)
running_keeps m [] = ended_keeps m _
running_keeps m (run statement ∷ rest) = statement_keeps m (record m { rest = rest }) statement (refl, refl)
running_keeps m (wait_lock ∷ rest) = lock_keeps m (record m { rest = rest }) m.section (refl, refl)
running_keeps m (unlock ∷ rest) = leaving_keeps (record m { rest = rest }) m.section
running_keeps m (end_try variable handler ∷ rest) = record { same = refl; stamp = refl; sent = tt }

step_keeps : (m : Machine) (progress : Progress) → NextKeeps m (step_of m progress)
step_keeps m unborn = keeps_silent m []
step_keeps m running = running_keeps m m.rest
step_keeps m (done value) = keeps_silent m []
step_keeps m (failed text) = keeps_silent m []

go_on_keeps : (id : Id) (last steps : ℕ) (before : Resumed) (next : Next) → Keeps id last before → NextKeeps before.machine next → Keeps id last (go_on steps before next)
unfolding go_on
go_on_keeps id last steps before (stays r) one two = keeps_both id last before r one two
go_on_keeps id last zero before (goes r) one two = keeps_both id last before _ one (ended_keeps before.machine _)
go_on_keeps id last (suc steps) before (goes r) one two =
    let now = and_then before r in go_on_keeps id last steps now (next_of now.machine) (keeps_both id last before r one two) (step_keeps now.machine now.machine.progress)

go_keeps : (steps : ℕ) (m : Machine) → Keeps m.id m.last (go steps m)
go_keeps steps m = go_on_keeps m.id m.last steps (only m) (next_of m) (keeps_silent m []) (step_keeps m m.progress)

-- ---- events

with_answer_alike : (m : Machine) (task : ℕ) (outcome : Option Outcome) → IsAlike m (with_answer m task outcome)
with_answer_alike m task None = (refl, refl)
with_answer_alike m task (Some outcome) = arrived_alike m task outcome

heard_alike : (m : Machine) (name : List ℕ) (value : Value) (listener : Option ℕ) → IsAlike m (heard m name value listener)
heard_alike m name value None = (refl, refl)
heard_alike m name value (Some task) = arrived_alike m task _

granted_alike : (m : Machine) (task : ℕ) (section : Section) → IsAlike m (granted_in m task section)
granted_alike m task outside = (refl, refl)
granted_alike m task (acquiring waited set) = by (task == waited)
  where
    by : (same : Bool) → IsAlike m (cond same (record (arrived m task (outcomes.Done values.Null)) { section = inside set }) m)
    by true = arrived_alike m task _
    by false = (refl, refl)
granted_alike m task (inside set) = (refl, refl)

recorded_alike : (m : Machine) (event : Event) → IsAlike m (recorded m event)
recorded_alike m (started sender argument reply) = (refl, refl)
recorded_alike m (resulted task answer) = with_answer_alike m task (outcome_of answer)
recorded_alike m (was_an_event name value) = heard_alike m name value (oldest_listener name m.tasks)
recorded_alike m (fired task) = arrived_alike m task _
recorded_alike m (was_granted task) = granted_alike m task m.section

-- what is kept after a change that leaves the machine alike
keeps_alike : (m now : Machine) (r : Resumed) → IsAlike m now → Keeps now.id now.last r → Keeps m.id m.last r
keeps_alike m now r alike keeps = record { same = keeps.same ∙ alike.0; stamp = keeps.stamp ∙ alike.1; sent = subst (λ (i : Id). AllFrom i r.sent) alike.0 keeps.sent }

late_keeps : (m : Machine) (happening : Event) → Keeps m.id m.last (granted_late m happening)
late_keeps m (started sender argument reply) = keeps_silent m []
late_keeps m (resulted task answer) = keeps_silent m []
late_keeps m (was_an_event name value) = keeps_silent m []
late_keeps m (fired task) = keeps_silent m []
late_keeps m (was_granted task) = let now = granted_in m task m.section in keeps_alike m now (leaving now now.section) (granted_alike m task m.section) (leaving_keeps now now.section)

goes_on_keeps : (m : Machine) → Keeps m.id m.last (goes_on m)
goes_on_keeps m = by (nat_lt m.events most_events)
  where
    by : (few : Bool) → Keeps m.id m.last (cond few (go most_steps (record m { events = m.events + 1 })) (ended m (failed (codes "history"))))
    by true = go_keeps most_steps (record m { events = m.events + 1 })
    by false = ended_keeps m _

begins_keeps : (m : Machine) (happening : Event) (body : Option Block) → Keeps m.id m.last (begins m happening body)
begins_keeps m (started sender argument reply) (Some body) =
    goes_on_keeps (record m { starter = sender; reply = reply; variables = (codes "arg", argument) ∷ []; rest = todo body; progress = running })
begins_keeps m (started sender argument reply) None = ended_keeps (record m { starter = sender; reply = reply }) _
begins_keeps m (resulted task answer) body = ended_keeps m _
begins_keeps m (was_an_event name value) body = ended_keeps m _
begins_keeps m (fired task) body = ended_keeps m _
begins_keeps m (was_granted task) body = ended_keeps m _

resumed_keeps : (m : Machine) (happening : Event) (progress : Progress) → Keeps m.id m.last (resumed_by m happening progress)
resumed_keeps m happening unborn = begins_keeps m happening m.body
resumed_keeps m happening running = keeps_alike m (recorded m happening) (goes_on (recorded m happening)) (recorded_alike m happening) (goes_on_keeps (recorded m happening))
resumed_keeps m happening (done value) = late_keeps m happening
resumed_keeps m happening (failed text) = late_keeps m happening

pub resume_keeps : (m : Machine) (happening : Event) (stamp : ℕ) → Keeps m.id stamp (resume m happening stamp)
resume_keeps m happening stamp = resumed_keeps (record m { last = stamp }) happening m.progress
