-- What is taken out of what is to run.
use Rattle.std.proofs.Common.{◌≡◌, ◌<◌, ◌∙◌, ◌++◌, ℕ, List, [], ◌∷◌, length, take, drop, map, codes, Result, Ok, Err, IfOk, Bool, true, false, refl, ap, sym, subst, arith}
use Rattle.std.proofs.lemmas.List.{append-nil}
use Rattle.dura_value.specs.Views.{messages_of}
use Rattle.std.specs.Borrow.{Bor}
use Rattle.flow_syntax.specs.declared.syntax.Stmt.{Stmt}
use Rattle.flow_syntax.specs.Syntax.{Statement}
use Rattle.flow_syntax.specs.Views.{block_of}
use Rattle.flow_syntax.specs.Machine.{Machine, Todo, Next, stays, goes, only, ended, failed, run, wait_lock, unlock, end_try, todo, running_step}
use Rattle.flow_machine.specs.declared.machine.Todo.{Todo as OwnTodo}
use Rattle.flow_machine.specs.declared.machine.Todo.TheVariants as own
use Rattle.flow_machine.specs.declared.machine.Machine.{Machine as OwnMachine}
use Rattle.flow_messages.specs.declared.made.Made.{Made}
use Rattle.flow_messages.specs.Views.{asked_of}
use Rattle.flow_machine.specs.Views.{machine_of, todos_of}
use Rattle.flow_machine.specs.Steps.{with_rest, todo_step, Moves, Waits}
use Rattle.flow_replay.specs.Moving.{Taken, stopped, IsGoing, Blocks}

-- what is no body is one thing
pub single : (one : OwnTodo) → ((body : Bor (List Stmt)) → one ≡ own.Body body → ⊥) → length (todos_of one) ≡ 1
single (own.Body body) not_body = absurd (not_body body refl)
single (own.Await variable task) not_body = refl
single own.WaitLock not_body = refl
single own.Unlock not_body = refl
single (own.EndTry variable handler) not_body = refl

-- one thing that is to run, and its step
pub running_taken : (was : Machine) (one rest : List Todo) → length one ≡ 1 → running_step was (one ++ rest) ≡ todo_step was (with_rest was rest) one
running_taken was [] rest is = absurd (cc is)
running_taken was (run statement ∷ []) rest is = refl
running_taken was (wait_lock ∷ []) rest is = refl
running_taken was (unlock ∷ []) rest is = refl
running_taken was (end_try variable handler ∷ []) rest is = refl
running_taken was (first ∷ second ∷ more) rest is = absurd (cc is)

-- a body is its first statement and then the others
pub is_split : (body : List Stmt) (rest : List Todo) → 0 < length body → todo (block_of (take 1 body)) ++ todo (block_of (drop 1 body)) ++ rest ≡ todo (block_of body) ++ rest
is_split [] rest some = absurd (let none : 0 < 0 = some in omega (arith, none))
is_split (statement ∷ more) rest some = refl

pub is_one : (body : List Stmt) → 0 < length body → length (todo (block_of (take 1 body))) ≡ 1
is_one [] some = absurd (let none : 0 < 0 = some in omega (arith, none))
is_one (statement ∷ more) some = refl

pub is_alone : (body : List Stmt) → length body ≡ 1 → length (todo (block_of body)) ≡ 1
is_alone [] is = absurd (cc is)
is_alone (statement ∷ []) is = refl
is_alone (statement ∷ other ∷ more) is = absurd (cc is)

-- the step of a machine is that of what is taken out
step_is : (before old : Machine) (one : OwnTodo) → Taken before old one → running_step before before.rest ≡ todo_step before old (todos_of one)
step_is before old one taken =
    ap (running_step before) taken.rest ∙ running_taken before (todos_of one) old.rest taken.one ∙ ap (λ (m : Machine). todo_step before m (todos_of one)) (sym taken.other)

pub went_on : (went : Bool) (was now : Made) (m : OwnMachine) (before old : Machine) (one : OwnTodo) → went ≡ true → Taken before old one → Waits went was now m old (λ w. todo_step w old (todos_of one)) → Moves went was now m (running_step before before.rest)
went_on true was now m before old one is taken waits = subst (λ (next : Next). Moves true was now m next) (sym (step_is before old one taken)) (waits before)
went_on false was now m before old one is taken waits = absurd (cc is)

-- what is put back makes the machine what it was
pub put_back : (m before old : Machine) (one : OwnTodo) → Taken before old one → m ≡ with_rest old (todos_of one ++ old.rest) → m ≡ before
put_back m before old one taken is = is ∙ ap (with_rest old) (sym taken.rest) ∙ ap (λ (o : Machine). with_rest o before.rest) taken.other

pub blocked : (went : Bool) (was now : Made) (m after : OwnMachine) (before old : Machine) (one : OwnTodo) → went ≡ false → Taken before old one → Waits went was now m old (λ w. todo_step w old (todos_of one))
    → machine_of after ≡ with_rest (machine_of m) (todos_of one ++ (machine_of m).rest) → Moves went was now after (running_step before before.rest)
blocked true was now m after before old one is taken waits back = absurd (cc is)
blocked false was now m after before old one is taken waits back =
    subst (λ (next : Next). Moves false was now after next) (sym (step_is before old one taken ∙ waits.2 before))
    (record {
      machine = put_back (machine_of after) before old one taken (back ∙ ap (λ (o : Machine). with_rest o (todos_of one ++ o.rest)) waits.0);
      sent = ap (λ (d : Made). messages_of d.messages.items) waits.1 ∙ sym (append-nil (messages_of was.messages.items));
      asked = ap (λ (d : Made). map asked_of d.asked.items) waits.1 ∙ sym (append-nil (map asked_of was.asked.items));
    })

-- what holds whatever variable is set holds of one statement
pub of_variable : {E : Type 0} (given : Result Bool E) (P : Statement → Bool → Type 0) (f : List ℕ → Statement) (x : List ℕ) (s : Statement) → s ≡ f x → IfOk given (λ b. (v : List ℕ) → P (f v) b) → IfOk given (P s)
of_variable (Ok b) P f x s is all = subst (λ (t : Statement). P t b) (sym is) (all x)
of_variable (Err e) P f x s is all = tt

-- a machine that has taken all its steps, and what comes next
short : (m : Machine) (next : Next) → IsGoing next → stopped m next ≡ ended m (failed (codes "budget"))
short m (goes r) going = refl
short m (stays r) going = absurd going

pub stops_there : (blocks : Bool) (before old : Machine) (one : OwnTodo) → blocks ≡ true → Taken before old one → Blocks blocks (λ w. todo_step w old (todos_of one)) → stopped before (running_step before before.rest) ≡ only before
stops_there true before old one is taken blocks = ap (stopped before) (step_is before old one taken ∙ blocks before)
stops_there false before old one is taken blocks = absurd (cc is)

pub stops_short : (blocks : Bool) (before old : Machine) (one : OwnTodo) → blocks ≡ false → Taken before old one → Blocks blocks (λ w. todo_step w old (todos_of one)) → stopped before (running_step before before.rest) ≡ ended before (failed (codes "budget"))
stops_short false before old one is taken blocks = ap (stopped before) (step_is before old one taken) ∙ short before (todo_step before old (todos_of one)) (blocks before)
stops_short true before old one is taken blocks = absurd (cc is)
