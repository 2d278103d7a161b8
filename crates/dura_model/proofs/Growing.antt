-- A machine's tasks grow, and the activities that it asks for are new tasks.
use Rattle.std.proofs.Common.{◌≡◌, ◌≤◌, ◌<◌, ◌+◌, ◌==◌, ℕ, zero, suc, length, Bool, true, false, cond, List, [], ◌∷◌, ◌++◌, Option, Some, None, Result, Ok, Err, refl, sym, ap, subst, ◌∙◌, arith, length-append}
use Rattle.std.specs.Prelude.{ℤ, pos, negsuc, codes, nat_lt}
use Rattle.dura_value.specs.declared.data.Value.{Value}
use Rattle.dura_value.specs.declared.data.Value.TheVariants as values
use Rattle.dura_value.specs.declared.outcome.Outcome.{Outcome}
use Rattle.dura_value.specs.declared.outcome.Outcome.TheVariants as outcomes
use Rattle.dura_value.specs.Messages.{set_of}
use Rattle.flow_syntax.specs.Syntax.{Expression, Statement, let_be, spawn, call, subflow, ask, timer, event as next_event, await, await_all, await_any, signal, lock_in, if_then, while, try, return, fail, Block}
use Rattle.flow_syntax.specs.Eval.{◌>>=◌, eval, to_integer, to_truth, to_text, to_key, to_scalars, list_of}
use Rattle.flow_syntax.specs.Machine.{Machine, Task, Arrival, Section, outside, acquiring, inside, Todo, run, wait_lock, unlock, end_try, Progress, unborn, running, done, failed, Asked, an_activity, a_timer, Resumed, only, and_then, leaving, ended, thrown, task_at, arrival_of, with_arrival, settled_once, settled, arrived, of_activity, of_timer, of_event, with_task, with_handle, to_handle, to_handles, all_arrived, all_values, Candidate, first_arrived, may_ask, may_signal, may_start, may_lock, spot_of, eval_spots, Next, stays, goes, throws, having, by_rule, scheduled, calls, starts, asks, signals, end_of_time, sets_timer, kept_value, with_kept, listens, sets, gets, awaited, awaited_all, awaited_any, waits_for, locks, branches, loops, statement_step, lock_step, running_step, step_of, next_of, most_steps, go_on, go, Event, started, resulted, fired, was_granted, outcome_of, with_answer, oldest_listener, heard, granted_in, recorded, granted_late, most_events, goes_on, begins, resumed_by, resume, was_raised as was_an_event}

-- the activities asked for have numbers from the one on and below the other
abbrev pub AllNew : ℕ → ℕ → List Asked → Type 0
AllNew low high [] = Unit {0}
AllNew low high (an_activity task name argument ∷ more) = (low ≤ task) × (task < high) × AllNew low high more
AllNew low high (a_timer task due ∷ more) = AllNew low high more

-- From so many tasks on: there are no fewer afterwards, and the activities asked for are new ones.
pub record Grows (low : ℕ) (r : Resumed) : Type 0 where
  pub more : low ≤ length r.machine.tasks
  pub fresh : AllNew low (length r.machine.tasks) r.asked

new_wider : (low high other_low other_high : ℕ) (asked : List Asked) → other_low ≤ low → high ≤ other_high → AllNew low high asked → AllNew other_low other_high asked
new_wider low high other_low other_high [] is also new = tt
new_wider low high other_low other_high (an_activity task name argument ∷ more) is also new = (omega (arith, new.0), omega (arith, new.1), new_wider low high other_low other_high more is also new.2)
new_wider low high other_low other_high (a_timer task due ∷ more) is also new = new_wider low high other_low other_high more is also new

new_both : (low high : ℕ) (one other : List Asked) → AllNew low high one → AllNew low high other → AllNew low high (one ++ other)
new_both low high [] other new also = also
new_both low high (an_activity task name argument ∷ more) other new also = (new.0, new.1, new_both low high more other new.2 also)
new_both low high (a_timer task due ∷ more) other new also = new_both low high more other new also

grows_both : (low : ℕ) (before now : Resumed) → Grows low before → Grows (length before.machine.tasks) now → Grows low (and_then before now)
grows_both low before now one two = record {
  more = omega (arith, one.more, two.more);
  fresh = new_both low (length now.machine.tasks) before.asked now.asked
      (new_wider low (length before.machine.tasks) low (length now.machine.tasks) before.asked (omega arith) two.more one.fresh)
      (new_wider (length before.machine.tasks) (length now.machine.tasks) low (length now.machine.tasks) now.asked one.more (omega arith) two.fresh);
}

-- ---- ends and faults

leaving_grows : (m : Machine) (section : Section) → Grows (length m.tasks) (leaving m section)
leaving_grows m outside = record { more = omega arith; fresh = tt }
leaving_grows m (acquiring task set) = record { more = omega arith; fresh = tt }
leaving_grows m (inside set) = record { more = omega arith; fresh = tt }

ended_grows : (m : Machine) (progress : Progress) → Grows (length m.tasks) (ended m progress)
ended_grows m progress = grows_both (length m.tasks) (leaving m m.section) _ (leaving_grows m m.section) (record { more = omega arith; fresh = tt })

thrown_grows : (m : Machine) (fault : List ℕ) (rest : List Todo) → Grows (length m.tasks) (thrown m fault rest)
thrown_grows m fault [] = ended_grows m (failed fault)
thrown_grows m fault (end_try variable handler ∷ rest) = record { more = omega arith; fresh = tt }
thrown_grows m fault (unlock ∷ rest) = grows_both (length m.tasks) (leaving m m.section) (thrown (leaving m m.section).machine fault rest) (leaving_grows m m.section) (thrown_grows (leaving m m.section).machine fault rest)
thrown_grows m fault (run statement ∷ rest) = thrown_grows m fault rest
thrown_grows m fault (wait_lock ∷ rest) = thrown_grows m fault rest

throws_grows : (m : Machine) (fault : List ℕ) → Grows (length m.tasks) (throws m fault)
throws_grows m fault = thrown_grows m fault m.rest

-- ---- tasks

as_many : (tasks : List Task) (number : ℕ) (arrival : Arrival) → length (with_arrival tasks number arrival) ≡ length tasks
as_many [] number arrival = refl
as_many (task ∷ tasks) zero arrival = refl
as_many (task ∷ tasks) (suc number) arrival = ap suc (as_many tasks number arrival)

settled_as_many : (m : Machine) (number : ℕ) (outcome : Outcome) (task : Option Task) → length (settled m number outcome task).tasks ≡ length m.tasks
settled_as_many m number outcome None = refl
settled_as_many m number outcome (Some task) = by task.arrival
  where
    by : (before : Option Arrival) → length (settled_once m number outcome before).tasks ≡ length m.tasks
    by None = as_many m.tasks number _
    by (Some before) = refl

arrived_as_many : (m : Machine) (number : ℕ) (outcome : Outcome) → length (arrived m number outcome).tasks ≡ length m.tasks
arrived_as_many m number outcome = settled_as_many m number outcome (task_at m.tasks number)

one_more_task : (tasks : List Task) (task : Task) → length (tasks ++ task ∷ []) ≡ length tasks + 1
one_more_task tasks task = simp length-append refl

-- ---- statements

abbrev NextGrows : ℕ → Next → Type 0
NextGrows low (stays r) = Grows low r
NextGrows low (goes r) = Grows low r

-- so many tasks in the machine, and nothing asked for
grows_so : (low : ℕ) (r : Resumed) → length r.machine.tasks ≡ low → r.asked ≡ [] → Grows low r
grows_so low r is nothing = record { more = omega (arith, is); fresh = subst (AllNew low (length r.machine.tasks)) (sym nothing) tt }

-- one task more, and nothing asked for
grows_one : (low : ℕ) (r : Resumed) → length r.machine.tasks ≡ low + 1 → r.asked ≡ [] → Grows low r
grows_one low r is nothing = record { more = omega (arith, is); fresh = subst (AllNew low (length r.machine.tasks)) (sym nothing) tt }

having_grows : {X : Type 0} (m : Machine) (x : Result X (List ℕ)) (f : X → Resumed) → ((given : X) → Grows (length m.tasks) (f given)) → NextGrows (length m.tasks) (having m x f)
having_grows m (Ok x) f grows = grows x
having_grows m (Err fault) f grows = throws_grows m fault

waits_grows : {X : Type 0} (m : Machine) (x : Result X (List ℕ)) (f : X → Next) → ((given : X) → NextGrows (length m.tasks) (f given)) → NextGrows (length m.tasks) (waits_for m x f)
waits_grows m (Ok x) f grows = grows x
waits_grows m (Err fault) f grows = throws_grows m fault

by_rule_grows : (m : Machine) (may : Bool) (r : Resumed) → Grows (length m.tasks) r → Grows (length m.tasks) (by_rule m may r)
by_rule_grows m true r grows = grows
by_rule_grows m false r grows = throws_grows m _

scheduled_grows : (m : Machine) (activity : List ℕ) (argument : Value) → Grows (length m.tasks) (scheduled m activity argument)
scheduled_grows m activity argument = let more = one_more_task m.tasks (record { kind = of_activity activity argument; arrival = None }) in record { more = omega (arith, more); fresh = (omega arith, omega (arith, more), tt) }

timer_grows : (m : Machine) (variable : List ℕ) (due : ℕ) (in_time : Bool) → Grows (length m.tasks) (cond in_time (record { machine = with_task (with_handle m variable) (of_timer due); sent = []; asked = a_timer (length m.tasks) due ∷ [] }) (throws m (codes "overflow")))
timer_grows m variable due true = record { more = omega (arith, one_more_task m.tasks (record { kind = of_timer due; arrival = None })); fresh = tt }
timer_grows m variable due false = throws_grows m _

sets_timer_grows : (m : Machine) (variable : List ℕ) (delay : ℤ) → Grows (length m.tasks) (sets_timer m variable delay)
sets_timer_grows m variable (pos delay) = timer_grows m variable (m.last + delay) (nat_lt (m.last + delay) end_of_time)
sets_timer_grows m variable (negsuc n) = throws_grows m _

with_kept_as_many : (m : Machine) (name : List ℕ) (task : ℕ) (value : Option Value) → length (with_kept m name task value).tasks ≡ length m.tasks
with_kept_as_many m name task None = refl
with_kept_as_many m name task (Some value) = arrived_as_many _ task _

listens_grows : (m : Machine) (variable name : List ℕ) → Grows (length m.tasks) (listens m variable name)
listens_grows m variable name =
    grows_one (length m.tasks) (listens m variable name)
    (with_kept_as_many (with_task (with_handle m variable) (of_event name)) name (length m.tasks) (kept_value name m.kept) ∙ one_more_task m.tasks (record { kind = of_event name; arrival = None })) refl

gets_grows : (m : Machine) (variable : List ℕ) (outcome : Outcome) → Grows (length m.tasks) (gets m variable outcome)
gets_grows m variable (outcomes.Done value) = grows_so _ _ refl refl
gets_grows m variable (outcomes.Failed text) = throws_grows m text

awaited_grows : (was m : Machine) (variable : List ℕ) (arrival : Option Arrival) → was.tasks ≡ m.tasks → NextGrows (length m.tasks) (awaited was m variable arrival)
awaited_grows was m variable None same = grows_so _ _ (ap length same) refl
awaited_grows was m variable (Some arrival) same = gets_grows m variable arrival.outcome

awaited_all_grows : (was m : Machine) (variable : List ℕ) (results : Option (List Outcome)) → was.tasks ≡ m.tasks → NextGrows (length m.tasks) (awaited_all was m variable results)
awaited_all_grows was m variable None same = grows_so _ _ (ap length same) refl
awaited_all_grows was m variable (Some results) same = having_grows m (all_values results >>= λ given. to_scalars given >>= list_of) (sets m variable) (λ value. grows_so _ _ refl refl)

awaited_any_grows : (was m : Machine) (variable : List ℕ) (handles : List ℕ) (best : Option Candidate) → was.tasks ≡ m.tasks → NextGrows (length m.tasks) (awaited_any was m variable handles best)
awaited_any_grows was m variable [] best same = throws_grows m _
awaited_any_grows was m variable (handle ∷ handles) None same = grows_so _ _ (ap length same) refl
awaited_any_grows was m variable (handle ∷ handles) (Some best) same = grows_so _ _ refl refl

branches_grows : (m : Machine) (b : Bool) (yes_body no_body : Block) → Grows (length m.tasks) (branches m b yes_body no_body)
branches_grows m true yes_body no_body = grows_so _ _ refl refl
branches_grows m false yes_body no_body = grows_so _ _ refl refl

loops_grows : (m : Machine) (b : Bool) (test : Expression) (body : Block) → Grows (length m.tasks) (loops m b test body)
loops_grows m true test body = grows_so _ _ refl refl
loops_grows m false test body = grows_so _ _ refl refl

task_grows : (low : ℕ) (r : Resumed) (before : List Task) (task : Task) → length before ≡ low → r.machine.tasks ≡ before ++ task ∷ [] → r.asked ≡ [] → Grows low r
task_grows low r before task is same nothing = grows_one low r (ap length same ∙ one_more_task before task ∙ ap (λ (n : ℕ). n + 1) is) nothing

statement_grows : (was m : Machine) (statement : Statement) → was.tasks ≡ m.tasks → NextGrows (length m.tasks) (statement_step was m statement)
statement_grows was m (let_be variable value) same = having_grows m (eval m.variables value) (sets m variable) (λ given. grows_so _ _ refl refl)
statement_grows was m (spawn variable activity argument) same = having_grows m (eval m.variables argument) (scheduled (with_handle m variable) activity) (scheduled_grows (with_handle m variable) activity)
statement_grows was m (call variable activity argument) same = having_grows m (eval m.variables argument) (calls m variable activity) (λ given. scheduled_grows _ activity given)
statement_grows was m (subflow variable flow key argument) same =
    having_grows m ((eval m.variables key >>= to_key) >>= λ k. eval m.variables argument >>= λ a. Ok (k, a)) _
    (λ p. by_rule_grows m (may_start m.section) (starts m variable flow p.0 p.1) (task_grows _ _ m.tasks _ refl refl refl))
statement_grows was m (ask variable class key operation argument) same =
    having_grows m ((eval m.variables key >>= to_key) >>= λ k. eval m.variables argument >>= λ a. Ok (k, a)) _
    (λ p. by_rule_grows m (may_ask m.section (spot_of class p.0) m.tasks) (asks m variable (spot_of class p.0) operation p.1) (task_grows _ _ m.tasks _ refl refl refl))
statement_grows was m (timer variable delay) same = having_grows m (eval m.variables delay >>= to_integer) (sets_timer m variable) (sets_timer_grows m variable)
statement_grows was m (next_event variable name) same = listens_grows m variable name
statement_grows was m (await variable handle) same =
    waits_grows m (eval m.variables handle >>= to_handle m.tasks) (λ n. awaited was m variable (arrival_of (task_at m.tasks n))) (λ n. awaited_grows was m variable (arrival_of (task_at m.tasks n)) same)
statement_grows was m (await_all variable handles) same =
    waits_grows m (eval m.variables handles >>= to_handles m.tasks) (λ ns. awaited_all was m variable (all_arrived m.tasks ns)) (λ ns. awaited_all_grows was m variable (all_arrived m.tasks ns) same)
statement_grows was m (await_any variable handles) same =
    waits_grows m (eval m.variables handles >>= to_handles m.tasks) (λ ns. awaited_any was m variable ns (first_arrived m.tasks 0 ns)) (λ ns. awaited_any_grows was m variable ns (first_arrived m.tasks 0 ns) same)
statement_grows was m (signal class key operation argument) same =
    having_grows m ((eval m.variables key >>= to_key) >>= λ k. eval m.variables argument >>= λ a. Ok (k, a)) _
    (λ p. by_rule_grows m (may_signal m.section (spot_of class p.0)) (signals m (spot_of class p.0) operation p.1) (grows_so _ _ refl refl))
statement_grows was m (lock_in entities body) same =
    having_grows m (eval_spots m.variables entities) _ (λ spots. by_rule_grows m (may_lock m.section m.tasks) (locks m (set_of spots) body) (task_grows _ _ m.tasks _ refl refl refl))
statement_grows was m (if_then test yes_body no_body) same = having_grows m (eval m.variables test >>= to_truth) (λ b. branches m b yes_body no_body) (λ b. branches_grows m b yes_body no_body)
statement_grows was m (while test body) same = having_grows m (eval m.variables test >>= to_truth) (λ b. loops m b test body) (λ b. loops_grows m b test body)
statement_grows was m (try body variable handler) same = grows_so _ _ refl refl
statement_grows was m (return value) same = having_grows m (eval m.variables value) (λ v. ended m (done v)) (λ v. ended_grows m (done v))
statement_grows was m (fail text) same = having_grows m (eval m.variables text >>= to_text) (throws m) (throws_grows m)

lock_grows : (was m : Machine) (section : Section) → was.tasks ≡ m.tasks → NextGrows (length m.tasks) (lock_step was m section)
lock_grows was m outside same = grows_so _ _ refl refl
lock_grows was m (acquiring task set) same = grows_so _ _ (ap length same) refl
lock_grows was m (inside set) same = grows_so _ _ refl refl

running_grows : (m : Machine) (rest : List Todo) → NextGrows (length m.tasks) (running_step m rest)
running_grows m [] = ended_grows m _
running_grows m (run statement ∷ rest) = statement_grows m (record m { rest = rest }) statement refl
running_grows m (wait_lock ∷ rest) = lock_grows m (record m { rest = rest }) m.section refl
running_grows m (unlock ∷ rest) = leaving_grows (record m { rest = rest }) m.section
running_grows m (end_try variable handler ∷ rest) = grows_so _ _ refl refl

step_grows : (m : Machine) (progress : Progress) → NextGrows (length m.tasks) (step_of m progress)
step_grows m unborn = grows_so _ _ refl refl
step_grows m running = running_grows m m.rest
step_grows m (done value) = grows_so _ _ refl refl
step_grows m (failed text) = grows_so _ _ refl refl

go_on_grows : (low steps : ℕ) (before : Resumed) (next : Next) → Grows low before → NextGrows (length before.machine.tasks) next → Grows low (go_on steps before next)
unfolding go_on
go_on_grows low steps before (stays r) one two = grows_both low before r one two
go_on_grows low zero before (goes r) one two = grows_both low before _ one (ended_grows before.machine _)
go_on_grows low (suc steps) before (goes r) one two =
    let now = and_then before r in go_on_grows low steps now (next_of now.machine) (grows_both low before r one two) (step_grows now.machine now.machine.progress)

go_grows : (steps : ℕ) (m : Machine) → Grows (length m.tasks) (go steps m)
go_grows steps m = go_on_grows (length m.tasks) steps (only m) (next_of m) (grows_so _ _ refl refl) (step_grows m m.progress)

-- ---- events

with_answer_as_many : (m : Machine) (task : ℕ) (outcome : Option Outcome) → length (with_answer m task outcome).tasks ≡ length m.tasks
with_answer_as_many m task None = refl
with_answer_as_many m task (Some outcome) = arrived_as_many m task outcome

heard_as_many : (m : Machine) (name : List ℕ) (value : Value) (listener : Option ℕ) → length (heard m name value listener).tasks ≡ length m.tasks
heard_as_many m name value None = refl
heard_as_many m name value (Some task) = arrived_as_many m task _

granted_as_many : (m : Machine) (task : ℕ) (section : Section) → length (granted_in m task section).tasks ≡ length m.tasks
granted_as_many m task outside = refl
granted_as_many m task (acquiring waited set) = by (task == waited)
  where
    by : (same : Bool) → length (cond same (record (arrived m task (outcomes.Done values.Null)) { section = inside set }) m).tasks ≡ length m.tasks
    by true = arrived_as_many m task _
    by false = refl
granted_as_many m task (inside set) = refl

recorded_as_many : (m : Machine) (event : Event) → length (recorded m event).tasks ≡ length m.tasks
recorded_as_many m (started sender argument reply) = refl
recorded_as_many m (resulted task answer) = with_answer_as_many m task (outcome_of answer)
recorded_as_many m (was_an_event name value) = heard_as_many m name value (oldest_listener name m.tasks)
recorded_as_many m (fired task) = arrived_as_many m task _
recorded_as_many m (was_granted task) = granted_as_many m task m.section

late_grows : (m : Machine) (event : Event) → Grows (length m.tasks) (granted_late m event)
late_grows m (started sender argument reply) = grows_so _ _ refl refl
late_grows m (resulted task answer) = grows_so _ _ refl refl
late_grows m (was_an_event name value) = grows_so _ _ refl refl
late_grows m (fired task) = grows_so _ _ refl refl
late_grows m (was_granted task) =
    let now = granted_in m task m.section in subst (λ (n : ℕ). Grows n (leaving now now.section)) (granted_as_many m task m.section) (leaving_grows now now.section)

goes_on_grows : (m : Machine) → Grows (length m.tasks) (goes_on m)
goes_on_grows m = by (nat_lt m.events most_events)
  where
    by : (few : Bool) → Grows (length m.tasks) (cond few (go most_steps (record m { events = m.events + 1 })) (ended m (failed (codes "history"))))
    by true = go_grows most_steps (record m { events = m.events + 1 })
    by false = ended_grows m _

begins_grows : (m : Machine) (event : Event) (body : Option Block) → Grows (length m.tasks) (begins m event body)
begins_grows m (started sender argument reply) (Some body) = goes_on_grows _
begins_grows m (started sender argument reply) None = ended_grows (record m { starter = sender; reply = reply }) _
begins_grows m (resulted task answer) body = ended_grows m _
begins_grows m (was_an_event name value) body = ended_grows m _
begins_grows m (fired task) body = ended_grows m _
begins_grows m (was_granted task) body = ended_grows m _

resumed_grows : (m : Machine) (event : Event) (progress : Progress) → Grows (length m.tasks) (resumed_by m event progress)
resumed_grows m event unborn = begins_grows m event m.body
resumed_grows m event running = subst (λ (n : ℕ). Grows n (goes_on (recorded m event))) (recorded_as_many m event) (goes_on_grows (recorded m event))
resumed_grows m event (done value) = late_grows m event
resumed_grows m event (failed text) = late_grows m event

pub resume_grows : (m : Machine) (event : Event) (stamp : ℕ) → Grows (length m.tasks) (resume m event stamp)
resume_grows m event stamp = resumed_grows (record m { last = stamp }) event m.progress
