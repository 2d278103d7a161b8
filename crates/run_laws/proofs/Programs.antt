-- The machine does what an instance may do.
use Rattle.std.proofs.Common.{◌≡◌, ◌==◌, ◌+◌, ℕ, zero, suc, Bool, true, false, cond, List, [], ◌∷◌, ◌++◌, length, Option, Some, None, Result, Ok, Err, refl, sym, ap, subst, ◌∙◌, append_assoc}
use Rattle.std.proofs.lemmas.List.{append-nil}
use Rattle.std.proofs.lemmas.Bool.{cond-true, eq-eqb}
use Rattle.std.specs.Prelude.{codes, nat_lt, ℤ, pos, negsuc}
use Rattle.dura_value.specs.declared.data.Value.{Value}
use Rattle.dura_value.specs.declared.data.Value.TheVariants as values
use Rattle.dura_value.specs.declared.outcome.Outcome.{Outcome}
use Rattle.dura_value.specs.declared.outcome.Outcome.TheVariants as outcomes
use Rattle.dura_value.specs.Ids.{Id, orchestration}
use Rattle.dura_value.specs.Messages.{Reply, to_nobody, to_task, to_request, Spot, at_spot, set_of, Body, start, operate, Message}
use Rattle.flow_syntax.specs.Syntax.{Expression, Statement, let_be, spawn, call, subflow, ask, timer, event, await, await_all, await_any, signal, lock_in, if_then, while, try, return, fail, Block}
use Rattle.flow_syntax.specs.Eval.{eval, to_key, to_integer, to_truth, to_text, ◌>>=◌, to_scalars, list_of}
use Rattle.flow_syntax.specs.Machine.{Machine, Section, outside, acquiring, inside, Todo, run, wait_lock, unlock, end_try, Progress, unborn, running, done, failed, Resumed, Asked, only, and_then, says, releasing, leaving, telling, ended, thrown, Next, stays, goes, throws, having, by_rule, Task, task_at, Arrival, arrival_of, Candidate, may_start, may_ask, may_signal, may_lock, spot_of, eval_spots, scheduled, with_handle, calls, starts, asks, signals, sets_timer, end_of_time, listens, sets, gets, awaited, awaited_all, awaited_any, waits_for, to_handle, to_handles, all_arrived, all_values, first_arrived, locks, branches, loops, statement_step, lock_step, running_step, step_of, next_of, go_on, go, most_steps, most_events, goes_on, begins, resumed_by, resume, recorded, granted_late, granted_in, todo, Event, started, resulted, was_raised, fired, was_granted, with_task, with_kept, kept_value, without_kept, of_event, arrived, settled, settled_once, heard, with_answer, outcome_of, oldest_listener}
use Rattle.dura_model.specs.Deliveries.{is_over}
use Rattle.run_laws.proofs.MessageKinds.{kind_of, is_other}
use Rattle.run_laws.proofs.Does.{Does, rests, sends, enters, stalls, leaves, ends, Plain, plain_does, does_settled, not_over_settled, IsSettled}
use Rattle.run_laws.proofs.Sets.{is_rising, set_rising}

abbrev pub is_unborn : Progress → Bool
is_unborn unborn = true
is_unborn other = false

-- What is made from this section and progress on is what the instance may do, whatever it does behind it.
pub record Makes (id : Id) (section : Section) (progress : Progress) (r : Resumed) : Type 0 where
  pub same : r.machine.id ≡ id
  pub born : is_unborn progress ≡ false → is_unborn r.machine.progress ≡ false
  pub does : (later : Section) (over : Bool) (messages : List Message) → Does id r.machine.section (is_over r.machine.progress) messages later over → Does id section (is_over progress) (r.sent ++ messages) later over

abbrev pub NextMakes : Id → Section → Progress → Next → Type 0
NextMakes id section progress (stays r) = Makes id section progress r
NextMakes id section progress (goes r) = Makes id section progress r

then_makes : (id : Id) (section : Section) (progress : Progress) (before now : Resumed) → Makes id section progress before → Makes before.machine.id before.machine.section before.machine.progress now → Makes id section progress (and_then before now)
then_makes id section progress before now first second =
    let next : Makes id before.machine.section before.machine.progress now = subst (λ (i : Id). Makes i before.machine.section before.machine.progress now) first.same second in
    record {
      same = next.same;
      born = λ is. next.born (first.born is);
      does = λ later over messages does.
          subst (λ (all : List Message). Does id section (is_over progress) all later over) (sym (append_assoc before.sent now.sent messages)) (first.does later over (now.sent ++ messages) (next.does later over messages does));
    }

-- ---- one thing at a time

-- nothing is sent
asking : (m : Machine) (asked : List Asked) → Makes m.id m.section m.progress (record { machine = m; sent = []; asked = asked })
asking m asked = record { same = refl; born = λ is. is; does = λ later over messages does. does }

quiet : (m : Machine) → Makes m.id m.section m.progress (only m)
quiet m = asking m []

saying : (m : Machine) (to : Id) (body : Body) → kind_of body ≡ is_other → Makes m.id m.section m.progress (record { machine = m; sent = says m to body ∷ []; asked = [] })
saying m to body is = record { same = refl; born = λ born. born; does = λ later over messages does. sends (says m to body) refl is does }

left : (m : Machine) (section : Section) → m.section ≡ section → Makes m.id m.section m.progress (leaving m section)
left m outside is = quiet m
left m (acquiring task set) is = quiet m
left m (inside set) is = record {
  same = refl;
  born = λ born. born;
  does = λ later over messages does. subst (λ (section : Section). Does m.id section (is_over m.progress) (releasing m.id set ++ messages) later over) (sym is) (leaves set does);
}

telling_plain : (m : Machine) (reply : Reply) (progress : Progress) → Plain m.id (telling m reply progress)
telling_plain m to_nobody progress = tt
telling_plain m (to_request number) progress = tt
telling_plain m (to_task number) unborn = tt
telling_plain m (to_task number) running = tt
telling_plain m (to_task number) (done value) = (refl, refl, tt)
telling_plain m (to_task number) (failed text) = (refl, refl, tt)

over_born : (progress : Progress) → is_over progress ≡ true → is_unborn progress ≡ false
over_born unborn is = absurd (cc is)
over_born running is = absurd (cc is)
over_born (done value) is = refl
over_born (failed text) is = refl

-- an end, once the section is left
stops : (m : Machine) (progress : Progress) (section : Section) → m.section ≡ section → is_over progress ≡ true
    → Makes m.id m.section m.progress (and_then (leaving m section) (record { machine = record (leaving m section).machine { rest = []; progress = progress }; sent = telling m m.reply progress; asked = [] }))
stops m progress outside is over = record {
  same = refl;
  born = λ born. over_born progress over;
  does = λ later at_end messages does.
      subst (λ (section : Section). Does m.id section (is_over m.progress) (telling m m.reply progress ++ messages) later at_end) (sym is)
      (ends refl (plain_does m.id (telling m m.reply progress) messages outside later true at_end (telling_plain m m.reply progress) (subst (λ (b : Bool). Does m.id outside b messages later at_end) over (subst (λ (section : Section). Does m.id section (is_over progress) messages later at_end) is does))));
}
stops m progress (acquiring task set) is over = record {
  same = refl;
  born = λ born. over_born progress over;
  does = λ later at_end messages does.
      subst (λ (section : Section). Does m.id section (is_over m.progress) (telling m m.reply progress ++ messages) later at_end) (sym is)
      (ends refl (plain_does m.id (telling m m.reply progress) messages (acquiring task set) later true at_end (telling_plain m m.reply progress) (subst (λ (b : Bool). Does m.id (acquiring task set) b messages later at_end) over (subst (λ (section : Section). Does m.id section (is_over progress) messages later at_end) is does))));
}
stops m progress (inside set) is over = record {
  same = refl;
  born = λ born. over_born progress over;
  does = λ later at_end messages does.
      subst (λ (section : Section). Does m.id section (is_over m.progress) ((releasing m.id set ++ telling m m.reply progress) ++ messages) later at_end) (sym is)
      (subst (λ (all : List Message). Does m.id (inside set) (is_over m.progress) all later at_end) (sym (append_assoc (releasing m.id set) (telling m m.reply progress) messages))
      (leaves set (ends refl (plain_does m.id (telling m m.reply progress) messages outside later true at_end (telling_plain m m.reply progress) (subst (λ (b : Bool). Does m.id outside b messages later at_end) over does)))));
}

is_ended : (m : Machine) (progress : Progress) → is_over progress ≡ true → Makes m.id m.section m.progress (ended m progress)
is_ended m progress over = stops m progress m.section refl over

is_thrown : (m : Machine) (fault : List ℕ) (rest : List Todo) → Makes m.id m.section m.progress (thrown m fault rest)
is_thrown m fault [] = is_ended m (failed fault) refl
is_thrown m fault (end_try variable handler ∷ rest) = quiet _
is_thrown m fault (unlock ∷ rest) = then_makes m.id m.section m.progress (leaving m m.section) (thrown (leaving m m.section).machine fault rest) (left m m.section refl) (is_thrown (leaving m m.section).machine fault rest)
is_thrown m fault (run statement ∷ rest) = is_thrown m fault rest
is_thrown m fault (wait_lock ∷ rest) = is_thrown m fault rest

throwing : (m : Machine) (fault : List ℕ) → Makes m.id m.section m.progress (throws m fault)
throwing m fault = is_thrown m fault m.rest

-- ---- what a step needs

has : {X : Type 0} (m : Machine) (given : Result X (List ℕ)) (f : X → Resumed) → ((x : X) → Makes m.id m.section m.progress (f x)) → NextMakes m.id m.section m.progress (having m given f)
has m (Ok x) f makes = makes x
has m (Err fault) f makes = throwing m fault

waiting : {X : Type 0} (m : Machine) (given : Result X (List ℕ)) (f : X → Next) → ((x : X) → NextMakes m.id m.section m.progress (f x)) → NextMakes m.id m.section m.progress (waits_for m given f)
waiting m (Ok x) f makes = makes x
waiting m (Err fault) f makes = throwing m fault

ruled : (m : Machine) (test : Bool) (r : Resumed) → (test ≡ true → Makes m.id m.section m.progress r) → Makes m.id m.section m.progress (by_rule m test r)
ruled m true r makes = makes refl
ruled m false r makes = throwing m (codes "lockrule")

either : (id : Id) (section : Section) (progress : Progress) (test : Bool) (a b : Resumed) → Makes id section progress a → Makes id section progress b → Makes id section progress (cond test a b)
either id section progress true a b first second = first
either id section progress false a b first second = second

-- what a change of tasks leaves as it is
pub record Alike (m now : Machine) : Type 0 where
  pub id : now.id ≡ m.id
  pub section : now.section ≡ m.section
  pub progress : now.progress ≡ m.progress

settled_alike : (m : Machine) (task : ℕ) (outcome : Outcome) (there : Option Task) → Alike m (settled m task outcome there)
settled_alike m task outcome None = record { id = refl; section = refl; progress = refl }
settled_alike m task outcome (Some t) = once t.arrival
  where
    once : (arrival : Option Arrival) → Alike m (settled_once m task outcome arrival)
    once None = record { id = refl; section = refl; progress = refl }
    once (Some before) = record { id = refl; section = refl; progress = refl }

arrived_alike : (m : Machine) (task : ℕ) (outcome : Outcome) → Alike m (arrived m task outcome)
arrived_alike m task outcome = settled_alike m task outcome (task_at m.tasks task)

kept_alike : (m : Machine) (name : List ℕ) (task : ℕ) (value : Option Value) → Alike m (with_kept m name task value)
kept_alike m name task None = record { id = refl; section = refl; progress = refl }
kept_alike m name task (Some value) =
    let alike = arrived_alike (record m { kept = without_kept name m.kept }) task (outcomes.Done value) in record { id = alike.id; section = alike.section; progress = alike.progress }

-- one that is alike makes the same
makes_alike : (m now : Machine) (r : Resumed) → Alike m now → Makes now.id now.section now.progress r → Makes m.id m.section m.progress r
makes_alike m now r alike makes =
    subst (λ (id : Id). Makes id m.section m.progress r) alike.id
    (subst (λ (section : Section). Makes now.id section m.progress r) alike.section
    (subst (λ (progress : Progress). Makes now.id now.section progress r) alike.progress makes))

may_lock_outside : (section : Section) (tasks : List Task) → may_lock section tasks ≡ true → section ≡ outside
may_lock_outside outside tasks is = refl
may_lock_outside (acquiring task set) tasks is = absurd (cc is)
may_lock_outside (inside set) tasks is = absurd (cc is)

-- ---- statements

locking_makes : (m : Machine) (set : List Spot) (body : Block) → is_rising set ≡ true → m.section ≡ outside → Makes m.id m.section m.progress (locks m set body)
locking_makes m [] body rising is = record {
  same = refl;
  born = λ born. born;
  does = λ later over messages does. subst (λ (section : Section). Does m.id section (is_over m.progress) messages later over) (sym is) (stalls (length m.tasks) does);
}
locking_makes m (spot ∷ set) body rising is = record {
  same = refl;
  born = λ born. born;
  does = λ later over messages does.
      subst (λ (section : Section). Does m.id section (is_over m.progress) ((locks m (spot ∷ set) body).sent ++ messages) later over) (sym is) (enters (length m.tasks) (spot ∷ set) (at_spot spot) rising refl does);
}

timing : (m : Machine) (variable : List ℕ) (delay : ℤ) → Makes m.id m.section m.progress (sets_timer m variable delay)
timing m variable (pos delay) = either m.id m.section m.progress (nat_lt (m.last + delay) end_of_time) _ (throws m (codes "overflow")) (asking _ _) (throwing m (codes "overflow"))
timing m variable (negsuc n) = throwing m (codes "range")

getting : (m : Machine) (variable : List ℕ) (outcome : Outcome) → Makes m.id m.section m.progress (gets m variable outcome)
getting m variable (outcomes.Done value) = quiet _
getting m variable (outcomes.Failed text) = throwing m text

branching : (m : Machine) (test : Bool) (yes_body no_body : Block) → Makes m.id m.section m.progress (branches m test yes_body no_body)
branching m true yes_body no_body = quiet _
branching m false yes_body no_body = quiet _

looping : (m : Machine) (test : Bool) (condition : Expression) (body : Block) → Makes m.id m.section m.progress (loops m test condition body)
looping m true condition body = quiet _
looping m false condition body = quiet _

module _ (was : Machine) (rest : List Todo) where
  abbrev m : Machine
  m = record was { rest = rest }

  abbrev Fine : Next → Type 0
  Fine = NextMakes was.id was.section was.progress

  awaiting : (variable : List ℕ) (arrival : Option Arrival) → Fine (awaited was m variable arrival)
  awaiting variable None = quiet was
  awaiting variable (Some arrival) = getting m variable arrival.outcome

  awaiting_all : (variable : List ℕ) (results : Option (List Outcome)) → Fine (awaited_all was m variable results)
  awaiting_all variable None = quiet was
  awaiting_all variable (Some results) = has m (all_values results >>= λ given. to_scalars given >>= list_of) (sets m variable) (λ value. quiet _)

  awaiting_any : (variable : List ℕ) (handles : List ℕ) (best : Option Candidate) → Fine (awaited_any was m variable handles best)
  awaiting_any variable [] best = throwing m (codes "empty")
  awaiting_any variable (handle ∷ handles) None = quiet was
  awaiting_any variable (handle ∷ handles) (Some best) = quiet _

  listening : (variable name : List ℕ) → Makes was.id was.section was.progress (listens m variable name)
  listening variable name =
      let listener = with_task (with_handle m variable) (of_event name) in
      makes_alike listener (with_kept listener name (length m.tasks) (kept_value name m.kept)) (listens m variable name) (kept_alike listener name (length m.tasks) (kept_value name m.kept)) (quiet (with_kept listener name (length m.tasks) (kept_value name m.kept)))

  stepping : (statement : Statement) → Fine (statement_step was m statement)
  stepping (let_be variable value) = has m (eval m.variables value) (sets m variable) (λ v. quiet _)
  stepping (spawn variable activity argument) = has m (eval m.variables argument) (scheduled (with_handle m variable) activity) (λ v. asking _ _)
  stepping (call variable activity argument) = has m (eval m.variables argument) (calls m variable activity) (λ v. asking _ _)
  stepping (subflow variable flow key argument) =
      has m ((eval m.variables key >>= to_key) >>= λ k. eval m.variables argument >>= λ a. Ok (k, a)) (λ (p : List ℕ × Value). by_rule m (may_start m.section) (starts m variable flow p.0 p.1))
      (λ p. ruled m (may_start m.section) (starts m variable flow p.0 p.1) (λ is. saying (starts m variable flow p.0 p.1).machine (orchestration flow p.0) (start p.1 (to_task (length m.tasks))) refl))
  stepping (ask variable class key operation argument) =
      has m ((eval m.variables key >>= to_key) >>= λ k. eval m.variables argument >>= λ a. Ok (k, a))
      (λ (p : List ℕ × Value). by_rule m (may_ask m.section (spot_of class p.0) m.tasks) (asks m variable (spot_of class p.0) operation p.1))
      (λ p. ruled m (may_ask m.section (spot_of class p.0) m.tasks) (asks m variable (spot_of class p.0) operation p.1) (λ is.
      saying (asks m variable (spot_of class p.0) operation p.1).machine (at_spot (spot_of class p.0)) (operate operation p.1 (to_task (length m.tasks))) refl))
  stepping (timer variable delay) = has m (eval m.variables delay >>= to_integer) (sets_timer m variable) (timing m variable)
  stepping (event variable name) = listening variable name
  stepping (await variable handle) =
      waiting m (eval m.variables handle >>= to_handle m.tasks) (λ n. awaited was m variable (arrival_of (task_at m.tasks n))) (λ n. awaiting variable (arrival_of (task_at m.tasks n)))
  stepping (await_all variable handles) =
      waiting m (eval m.variables handles >>= to_handles m.tasks) (λ ns. awaited_all was m variable (all_arrived m.tasks ns)) (λ ns. awaiting_all variable (all_arrived m.tasks ns))
  stepping (await_any variable handles) =
      waiting m (eval m.variables handles >>= to_handles m.tasks) (λ ns. awaited_any was m variable ns (first_arrived m.tasks 0 ns)) (λ ns. awaiting_any variable ns (first_arrived m.tasks 0 ns))
  stepping (signal class key operation argument) =
      has m ((eval m.variables key >>= to_key) >>= λ k. eval m.variables argument >>= λ a. Ok (k, a))
      (λ (p : List ℕ × Value). by_rule m (may_signal m.section (spot_of class p.0)) (signals m (spot_of class p.0) operation p.1))
      (λ p. ruled m (may_signal m.section (spot_of class p.0)) (signals m (spot_of class p.0) operation p.1) (λ is. saying m (at_spot (spot_of class p.0)) (operate operation p.1 to_nobody) refl))
  stepping (lock_in entities body) =
      has m (eval_spots m.variables entities) (λ (spots : List Spot). by_rule m (may_lock m.section m.tasks) (locks m (set_of spots) body))
      (λ spots. ruled m (may_lock m.section m.tasks) (locks m (set_of spots) body) (λ is. locking_makes m (set_of spots) body (set_rising spots) (may_lock_outside m.section m.tasks is)))
  stepping (if_then test yes_body no_body) = has m (eval m.variables test >>= to_truth) (λ b. branches m b yes_body no_body) (λ b. branching m b yes_body no_body)
  stepping (while test body) = has m (eval m.variables test >>= to_truth) (λ b. loops m b test body) (λ b. looping m b test body)
  stepping (try body variable handler) = quiet _
  stepping (return value) = has m (eval m.variables value) (λ v. ended m (done v)) (λ v. is_ended m (done v) refl)
  stepping (fail text) = has m (eval m.variables text >>= to_text) (throws m) (throwing m)

-- ---- local steps

lock_waits : (was m : Machine) (section : Section) → Alike was m → NextMakes was.id was.section was.progress (lock_step was m section)
lock_waits was m (acquiring task set) alike = quiet was
lock_waits was m outside alike = makes_alike was m (only m) alike (quiet m)
lock_waits was m (inside set) alike = makes_alike was m (only m) alike (quiet m)

runs : (was : Machine) (rest : List Todo) → NextMakes was.id was.section was.progress (running_step was rest)
runs was [] = is_ended was (done values.Null) refl
runs was (run statement ∷ rest) = stepping was rest statement
runs was (wait_lock ∷ rest) = lock_waits was (record was { rest = rest }) was.section (record { id = refl; section = refl; progress = refl })
runs was (unlock ∷ rest) = left (record was { rest = rest }) was.section refl
runs was (end_try variable handler ∷ rest) = quiet (record was { rest = rest })

steps : (m : Machine) (progress : Progress) → NextMakes m.id m.section m.progress (step_of m progress)
steps m running = runs m m.rest
steps m unborn = quiet m
steps m (done value) = quiet m
steps m (failed text) = quiet m

going_on : (count : ℕ) (id : Id) (section : Section) (progress : Progress) (before : Resumed) (next : Next) → Makes id section progress before → NextMakes before.machine.id before.machine.section before.machine.progress next
    → Makes id section progress (go_on count before next)
unfolding go_on
going_on count id section progress before (stays r) first makes = then_makes id section progress before r first makes
going_on zero id section progress before (goes r) first makes =
    then_makes id section progress before (ended before.machine (failed (codes "budget"))) first (is_ended before.machine (failed (codes "budget")) refl)
going_on (suc count) id section progress before (goes r) first makes =
    going_on count id section progress (and_then before r) (next_of (and_then before r).machine) (then_makes id section progress before r first makes) (steps (and_then before r).machine (and_then before r).machine.progress)

goes_makes : (m : Machine) → Makes m.id m.section m.progress (goes_on m)
goes_makes m =
    let now = record m { events = m.events + 1 } in
    either m.id m.section m.progress (nat_lt m.events most_events) (go most_steps now) (ended m (failed (codes "history")))
    (going_on most_steps m.id m.section m.progress (only now) (next_of now) (quiet now) (steps now now.progress))
    (is_ended m (failed (codes "history")) refl)

-- ---- events

-- What an event makes is what the instance may do from this section on, ended or not, and the instance is settled.
pub record Meets (id : Id) (section : Section) (over : Bool) (r : Resumed) : Type 0 where
  pub same : r.machine.id ≡ id
  pub born : is_unborn r.machine.progress ≡ false
  pub does : Does id section over r.sent r.machine.section (is_over r.machine.progress)
  pub settled : IsSettled r.machine.section (is_over r.machine.progress)

made_does : (id : Id) (section : Section) (progress : Progress) (r : Resumed) → Makes id section progress r → Does id section (is_over progress) r.sent r.machine.section (is_over r.machine.progress)
made_does id section progress r makes =
    subst (λ (all : List Message). Does id section (is_over progress) all r.machine.section (is_over r.machine.progress)) (append-nil r.sent) (makes.does r.machine.section (is_over r.machine.progress) [] rests)

meets_from : (id : Id) (section : Section) (progress : Progress) (r : Resumed) → Makes id section progress r → is_unborn progress ≡ false → IsSettled section (is_over progress) → Meets id section (is_over progress) r
meets_from id section progress r makes born is_settled =
    let does = made_does id section progress r makes in
    record { same = makes.same; born = makes.born born; does = does; settled = does_settled id section r.machine.section (is_over progress) (is_over r.machine.progress) r.sent does is_settled }

abbrev pub is_grant : Event → Bool
is_grant (was_granted task) = true
is_grant other = false

heard_alike : (m : Machine) (name : List ℕ) (value : Value) (listener : Option ℕ) → Alike m (heard m name value listener)
heard_alike m name value None = record { id = refl; section = refl; progress = refl }
heard_alike m name value (Some task) = arrived_alike m task (outcomes.Done value)

answer_alike : (m : Machine) (task : ℕ) (outcome : Option Outcome) → Alike m (with_answer m task outcome)
answer_alike m task None = record { id = refl; section = refl; progress = refl }
answer_alike m task (Some outcome) = arrived_alike m task outcome

recorded_alike : (m : Machine) (e : Event) → is_grant e ≡ false → Alike m (recorded m e)
recorded_alike m (started sender argument reply) is = record { id = refl; section = refl; progress = refl }
recorded_alike m (resulted task answer) is = answer_alike m task (outcome_of answer)
recorded_alike m (was_raised name value) is = heard_alike m name value (oldest_listener name m.tasks)
recorded_alike m (fired task) is = arrived_alike m task (outcomes.Done values.Null)
recorded_alike m (was_granted task) is = absurd (cc is)

failing : (m : Machine) → m.progress ≡ unborn → Meets m.id m.section false (ended m (failed (codes "unknown")))
failing m is =
    let r = ended m (failed (codes "unknown")) in
    let makes : Makes m.id m.section unborn r = subst (λ (progress : Progress). Makes m.id m.section progress r) is (is_ended m (failed (codes "unknown")) refl) in
    let does = made_does m.id m.section unborn r makes in
    record { same = makes.same; born = refl; does = does; settled = does_settled m.id m.section r.machine.section false true r.sent does (not_over_settled m.section) }

begins_meets : (m : Machine) (e : Event) (body : Option Block) → m.progress ≡ unborn → Meets m.id m.section false (begins m e body)
begins_meets m (started sender argument reply) (Some body) is =
    let now = record m { starter = sender; reply = reply; variables = (codes "arg", argument) ∷ []; rest = todo body; progress = running } in
    meets_from m.id m.section running (goes_on now) (goes_makes now) refl (not_over_settled m.section)
begins_meets m (started sender argument reply) None is = failing (record m { starter = sender; reply = reply }) is
begins_meets m (resulted task answer) body is = failing m is
begins_meets m (was_raised name value) body is = failing m is
begins_meets m (fired task) body is = failing m is
begins_meets m (was_granted task) body is = failing m is

late_same : (m : Machine) (e : Event) → is_grant e ≡ false → granted_late m e ≡ only m
late_same m (started sender argument reply) is = refl
late_same m (resulted task answer) is = refl
late_same m (was_raised name value) is = refl
late_same m (fired task) is = refl
late_same m (was_granted task) is = absurd (cc is)

late_meets : (m : Machine) (e : Event) → is_grant e ≡ false → is_unborn m.progress ≡ false → IsSettled m.section (is_over m.progress) → Meets m.id m.section (is_over m.progress) (granted_late m e)
late_meets m e is born is_settled = subst (Meets m.id m.section (is_over m.progress)) (sym (late_same m e is)) (meets_from m.id m.section m.progress (only m) (quiet m) born is_settled)

runs_on : (m now : Machine) → Alike m now → m.progress ≡ running → Meets m.id m.section false (goes_on now)
runs_on m now alike is =
    let makes : Makes m.id m.section running (goes_on now) = subst (λ (progress : Progress). Makes m.id m.section progress (goes_on now)) is (makes_alike m now (goes_on now) alike (goes_makes now)) in
    meets_from m.id m.section running (goes_on now) makes refl (not_over_settled m.section)

-- an event that is no grant
resumed_meets : (m : Machine) (e : Event) (progress : Progress) → m.progress ≡ progress → is_grant e ≡ false → IsSettled m.section (is_over progress) → Meets m.id m.section (is_over progress) (resumed_by m e progress)
resumed_meets m e unborn is plain is_settled = begins_meets m e m.body is
resumed_meets m e running is plain is_settled = runs_on m (recorded m e) (recorded_alike m e plain) is
resumed_meets m e (done value) is plain is_settled =
    subst (λ (progress : Progress). Meets m.id m.section (is_over progress) (granted_late m e)) is (late_meets m e plain (ap is_unborn is) (subst (λ (progress : Progress). IsSettled m.section (is_over progress)) (sym is) is_settled))
resumed_meets m e (failed text) is plain is_settled =
    subst (λ (progress : Progress). Meets m.id m.section (is_over progress) (granted_late m e)) is (late_meets m e plain (ap is_unborn is) (subst (λ (progress : Progress). IsSettled m.section (is_over progress)) (sym is) is_settled))

pub resume_meets : (m : Machine) (e : Event) (stamp : ℕ) → is_grant e ≡ false → IsSettled m.section (is_over m.progress) → Meets m.id m.section (is_over m.progress) (resume m e stamp)
resume_meets m e stamp plain is_settled = resumed_meets (record m { last = stamp }) e m.progress refl plain is_settled

-- ---- grants

-- a grant that the machine waits for
granting : (m : Machine) (task : ℕ) (set : List Spot) → m.section ≡ acquiring task set → granted_in m task m.section ≡ record (arrived m task (outcomes.Done values.Null)) { section = inside set }
granting m task set is =
    ap (granted_in m task) is ∙ cond-true (task == task) (record (arrived m task (outcomes.Done values.Null)) { section = inside set }) m (eq-eqb task task refl)

inside_now : (m : Machine) (task : ℕ) (set : List Spot) → Alike (record m { section = inside set }) (record (arrived m task (outcomes.Done values.Null)) { section = inside set })
inside_now m task set = let alike = arrived_alike m task (outcomes.Done values.Null) in record { id = alike.id; section = refl; progress = alike.progress }

-- an ended instance gives back at once
gives_back : (m now : Machine) (set : List Spot) → Alike (record m { section = inside set }) now → (section : Section) → section ≡ inside set → now.section ≡ section → is_unborn m.progress ≡ false → Meets m.id (inside set) (is_over m.progress) (leaving now section)
gives_back m now set alike outside other is born = absurd (cc other)
gives_back m now set alike (acquiring task wanted) other is born = absurd (cc other)
gives_back m now set alike (inside held) same is born =
    let r = leaving now (inside held) in
    let makes : Makes m.id (inside set) m.progress r = makes_alike (record m { section = inside set }) now r alike (left now (inside held) is) in
    record { same = makes.same; born = makes.born born; does = made_does m.id (inside set) m.progress r makes; settled = tt }

late_grant : (m : Machine) (task : ℕ) (set : List Spot) → m.section ≡ acquiring task set → is_unborn m.progress ≡ false → Meets m.id (inside set) (is_over m.progress) (granted_late m (was_granted task))
late_grant m task set is born =
    let now = record (arrived m task (outcomes.Done values.Null)) { section = inside set } in
    subst (λ (next : Machine). Meets m.id (inside set) (is_over m.progress) (leaving next next.section)) (sym (granting m task set is)) (gives_back m now set (inside_now m task set) (inside set) refl refl born)

granted_meets : (m : Machine) (task : ℕ) (set : List Spot) (progress : Progress) → m.progress ≡ progress → m.section ≡ acquiring task set → is_unborn progress ≡ false → Meets m.id (inside set) (is_over progress) (resumed_by m (was_granted task) progress)
granted_meets m task set unborn is waits born = absurd (cc born)
granted_meets m task set running is waits born =
    subst (λ (next : Machine). Meets m.id (inside set) false (goes_on next)) (sym (granting m task set waits)) (runs_on (record m { section = inside set }) (record (arrived m task (outcomes.Done values.Null)) { section = inside set }) (inside_now m task set) is)
granted_meets m task set (done value) is waits born =
    subst (λ (progress : Progress). Meets m.id (inside set) (is_over progress) (granted_late m (was_granted task))) is (late_grant m task set waits (ap is_unborn is))
granted_meets m task set (failed text) is waits born =
    subst (λ (progress : Progress). Meets m.id (inside set) (is_over progress) (granted_late m (was_granted task))) is (late_grant m task set waits (ap is_unborn is))

pub grant_meets : (m : Machine) (task : ℕ) (set : List Spot) (stamp : ℕ) → m.section ≡ acquiring task set → is_unborn m.progress ≡ false → Meets m.id (inside set) (is_over m.progress) (resume m (was_granted task) stamp)
grant_meets m task set stamp waits born = granted_meets (record m { last = stamp }) task set m.progress refl waits born
