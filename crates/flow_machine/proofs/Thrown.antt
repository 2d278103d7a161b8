-- What a fault passes over.
use Rattle.std.proofs.Common.{◌≡◌, ◌∙◌, ◌++◌, ℕ, List, [], ◌∷◌, Result, Ok, Err, OnOk, refl, ap, sym, append_assoc}
use Rattle.std.proofs.lemmas.List.{append-nil}
use Rattle.dura_value.specs.Messages.{Message, Reply, to_nobody, to_task, to_request}
use Rattle.flow_syntax.specs.Syntax.{Block, nothing, first_then}
use Rattle.flow_syntax.specs.Machine.{Machine, Todo, run, wait_lock, unlock, end_try, Resumed, only, and_then, leaving, telling, thrown, todo, ended, Progress, unborn, running, done, failed, outside, acquiring, inside, Section}
use Rattle.flow_machine.specs.declared.machine.Todo.{Todo as OwnTodo}
use Rattle.flow_machine.specs.declared.machine.Todo.TheVariants as todos_own
use Rattle.flow_syntax.specs.declared.syntax.Stmt.{Stmt}
use Rattle.std.specs.Borrow.{Bor}
use Rattle.flow_messages.specs.declared.made.Made.{Made}
use Rattle.flow_machine.specs.declared.machine.Machine.{Machine as OwnMachine}
use Rattle.flow_machine.specs.Steps.{Makes, Leads, with_rest, caught}
use Rattle.flow_machine.proofs.Leading.{leads_to}
use Rattle.flow_machine.specs.Views.{machine_of, body_of, todos_of, rest_of}

-- a body is passed over
pub over_body : (m : Machine) (fault : List ℕ) (body : Block) (rest : List Todo) → thrown m fault (todo body ++ rest) ≡ thrown m fault rest
over_body m fault nothing rest = refl
over_body m fault (first_then statement more) rest = over_body m fault more rest

-- what comes last in the vector comes first
pub rest_last : (rest : List OwnTodo) (one : OwnTodo) → rest_of (rest ++ one ∷ []) ≡ todos_of one ++ rest_of rest
rest_last [] one = sym (append-nil (todos_of one))
rest_last (first ∷ rest) one = ap (λ (ts : List Todo). ts ++ todos_of first) (rest_last rest one) ∙ append_assoc (todos_of one) (rest_of rest) (todos_of first)

telling_rest : (m : Machine) (rest : List Todo) (reply : Reply) (progress : Progress) → telling (with_rest m rest) reply progress ≡ telling m reply progress
telling_rest m rest to_nobody progress = refl
telling_rest m rest (to_request number) progress = refl
telling_rest m rest (to_task number) unborn = refl
telling_rest m rest (to_task number) running = refl
telling_rest m rest (to_task number) (done value) = refl
telling_rest m rest (to_task number) (failed text) = refl

-- a machine that has left this section ends and sends this
abbrev ends_with : Machine → Section → Progress → List Message → Resumed
ends_with m section progress sent =
    and_then (leaving m section) (record { machine = record (leaving m section).machine { rest = []; progress = progress }; sent = sent; asked = [] })

ended_at : (m : Machine) (rest : List Todo) (section : Section) (progress : Progress) (sent : List Message) → ends_with (with_rest m rest) section progress sent ≡ ends_with m section progress sent
ended_at m rest outside progress sent = refl
ended_at m rest (acquiring task set) progress sent = refl
ended_at m rest (inside set) progress sent = refl

-- an end is the same whatever is still to run
pub ended_rest : (m : Machine) (rest : List Todo) (progress : Progress) → ended (with_rest m rest) progress ≡ ended m progress
ended_rest m rest progress = ap (ends_with (with_rest m rest) m.section progress) (telling_rest m rest m.reply progress) ∙ ended_at m rest m.section progress (telling m m.reply progress)

-- it leaves this section, and the fault goes on
abbrev left : Machine → Section → List ℕ → List Todo → Resumed
left m section fault todos = and_then (leaving m section) (thrown (leaving m section).machine fault todos)

left_rest : (m : Machine) (rest : List Todo) (section : Section) (fault : List ℕ) (todos : List Todo) → ((n : Machine) → thrown (with_rest n rest) fault todos ≡ thrown n fault todos)
    → left (with_rest m rest) section fault todos ≡ left m section fault todos
left_rest m rest outside fault todos same = ap (and_then (only m)) (same m)
left_rest m rest (acquiring task set) fault todos same = ap (and_then (only m)) (same m)
left_rest m rest (inside set) fault todos same = ap (and_then (leaving m (inside set))) (same (record m { section = outside }))

-- so is what a fault does
pub thrown_rest : (m : Machine) (rest : List Todo) (fault : List ℕ) (todos : List Todo) → thrown (with_rest m rest) fault todos ≡ thrown m fault todos
thrown_rest m rest fault [] = ended_rest m rest (failed fault)
thrown_rest m rest fault (run statement ∷ todos) = thrown_rest m rest fault todos
thrown_rest m rest fault (wait_lock ∷ todos) = thrown_rest m rest fault todos
thrown_rest m rest fault (end_try variable handler ∷ todos) = refl
thrown_rest m rest fault (unlock ∷ todos) = left_rest m rest m.section fault todos (λ n. thrown_rest n rest fault todos)

-- what is left of the vector once its last is taken out
pub passed : (m : Machine) (fault : List ℕ) (rest less : List OwnTodo) (one : OwnTodo) → rest ≡ less ++ one ∷ [] → ((todos : List Todo) → thrown m fault (todos_of one ++ todos) ≡ thrown m fault todos)
    → thrown m fault (rest_of rest) ≡ thrown (with_rest m (rest_of less)) fault (rest_of less)
passed m fault rest less one is over =
    ap (λ (ts : List OwnTodo). thrown m fault (rest_of ts)) is ∙ ap (thrown m fault) (rest_last less one) ∙ over (rest_of less) ∙ sym (thrown_rest m (rest_of less) fault (rest_of less))

-- what comes first is looked at
pub taken : (m : Machine) (fault : List ℕ) (rest less : List OwnTodo) (one : OwnTodo) → rest ≡ less ++ one ∷ [] → thrown m fault (rest_of rest) ≡ thrown m fault (todos_of one ++ rest_of less)
taken m fault rest less one is = ap (λ (ts : List OwnTodo). thrown m fault (rest_of ts)) is ∙ ap (thrown m fault) (rest_last less one)

-- a body and waits are passed over
pub passes : (m : Machine) (fault : List ℕ) (one : OwnTodo) → (one ≡ todos_own.Unlock → ⊥) → ((variable : Bor (List ℕ)) (handler : Bor (List Stmt)) → one ≡ todos_own.EndTry variable handler → ⊥) → (todos : List Todo)
    → thrown m fault (todos_of one ++ todos) ≡ thrown m fault todos
passes m fault (todos_own.Body body) not_unlock not_try todos = over_body m fault (body_of body) todos
passes m fault (todos_own.Await variable task) not_unlock not_try todos = refl
passes m fault todos_own.WaitLock not_unlock not_try todos = refl
passes m fault todos_own.Unlock not_unlock not_try todos = absurd (not_unlock refl)
passes m fault (todos_own.EndTry variable handler) not_unlock not_try todos = absurd (not_try variable handler refl)

-- the end of a try goes on with its handler
pub caught_by : (m : Machine) (fault : List ℕ) (rest less : List OwnTodo) (variable : Bor (List ℕ)) (handler : Bor (List Stmt)) → rest ≡ less ++ todos_own.EndTry variable handler ∷ []
    → thrown m fault (rest_of rest) ≡ only (caught (with_rest m (rest_of less)) variable.now (body_of handler) fault)
caught_by m fault rest less variable handler is = taken m fault rest less (todos_own.EndTry variable handler) is

pub catches : {E : Type 0} (r : Result Unit E) (start now : Made) (after : OwnMachine) (next : Machine) (more total : Resumed) → more ≡ only next → OnOk r (machine_of after ≡ next) → Leads start now more total → OnOk r (Makes start now after total)
catches (Ok x) start now after next more total is caught_it leads = leads_to start now after more total (is ∙ ap only (sym caught_it)) leads
catches (Err e) start now after next more total is caught_it leads = tt

-- the end of a section is kept to
pub unlocked : (m now : Machine) (fault : List ℕ) (rest less : List OwnTodo) → rest ≡ less ++ todos_own.Unlock ∷ [] → now ≡ (leaving (with_rest m (rest_of less)) m.section).machine
    → thrown m fault (rest_of rest) ≡ and_then (leaving (with_rest m (rest_of less)) m.section) (thrown now fault (rest_of less))
unlocked m now fault rest less is left_it =
    taken m fault rest less todos_own.Unlock is ∙ sym (left_rest m (rest_of less) m.section fault (rest_of less) (λ n. thrown_rest n (rest_of less) fault (rest_of less)))
    ∙ ap (λ (n : Machine). and_then (leaving (with_rest m (rest_of less)) m.section) (thrown n fault (rest_of less))) (sym left_it)
