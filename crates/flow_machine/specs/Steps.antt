-- What a step of a machine changes, and what it makes.
use Rattle.std.specs.Prelude.{◌≡◌, ℕ, List, [], ◌∷◌, ◌++◌, map, codes, Bool, true, false}
use Rattle.dura_value.specs.Views.{messages_of}
use Rattle.dura_value.specs.declared.data.Value.TheVariants.{Text}
use Rattle.flow_syntax.specs.Eval.{set_in}
use Rattle.flow_syntax.specs.Syntax.{Block, Statement, await, await_all, await_any}
use Rattle.flow_syntax.specs.Machine as plain
use Rattle.flow_eval.specs.declared.fault.EvalError.{EvalError}
use Rattle.flow_eval.specs.declared.fault.EvalError.TheVariants.{Thrown, Memory}
use Rattle.flow_eval.specs.Faults.{fault_text}
use Rattle.flow_tasks.specs.declared.handles.HandleFault.{HandleFault}
use Rattle.flow_tasks.specs.declared.handles.HandleFault.TheVariants as handles
use Rattle.flow_machine.specs.declared.machine.Machine.{Machine}
use Rattle.flow_messages.specs.declared.made.Made.{Made}
use Rattle.flow_messages.specs.Views.{asked_of}
use Rattle.flow_machine.specs.Views.{machine_of}

-- A machine has become the one of this result, and what it made stands behind what was made before.
pub record Makes (was now : Made) (m : Machine) (r : plain.Resumed) : Type 0 where
  pub machine : machine_of m ≡ r.machine
  pub sent : messages_of now.messages.items ≡ messages_of was.messages.items ++ r.sent
  pub asked : map asked_of now.asked.items ≡ map asked_of was.asked.items ++ r.asked

-- It went on to the next step, or stayed.
abbrev pub Moves : Bool → Made → Made → Machine → plain.Next → Type 0
Moves true was now m (plain.goes r) = Makes was now m r
Moves false was now m (plain.stays r) = Makes was now m r
Moves true was now m (plain.stays r) = ⊥
Moves false was now m (plain.goes r) = ⊥

-- What was made by now, and then what more is made, is all that is made from the start.
pub record Leads (start now : Made) (more total : plain.Resumed) : Type 0 where
  pub machine : more.machine ≡ total.machine
  pub sent : messages_of now.messages.items ++ more.sent ≡ messages_of start.messages.items ++ total.sent
  pub asked : map asked_of now.asked.items ++ more.asked ≡ map asked_of start.asked.items ++ total.asked

-- It went on.
abbrev pub Goes : Made → Made → Machine → plain.Next → Type 0
Goes was now m next = Moves true was now m next

-- An error of an expression is thrown; want of memory ends the call.
abbrev pub Throws : Made → Made → Machine → plain.Machine → EvalError → Type 0
Throws was now m old (Thrown fault) = Makes was now m (plain.throws old (fault_text fault))
Throws was now m old Memory = ⊥

-- a machine with another rest
abbrev pub with_rest : plain.Machine → List plain.Todo → plain.Machine
with_rest m rest = record m { rest = rest }

-- A value that names no task is thrown.
abbrev pub ThrowsHandle : Made → Made → Machine → plain.Machine → HandleFault → Type 0
ThrowsHandle was now m old handles.Handle = Makes was now m (plain.throws old (codes "handle"))
ThrowsHandle was now m old handles.Type = Makes was now m (plain.throws old (codes "type"))
ThrowsHandle was now m old handles.Memory = ⊥

-- a machine with other events that are kept
abbrev pub with_events : plain.Machine → List plain.Raised → plain.Machine
with_events m kept = record m { kept = kept }

-- It went on, whatever it was with the statement still before it; or it waits, and nothing has changed.
abbrev pub Waits : Bool → Made → Made → Machine → plain.Machine → (plain.Machine → plain.Next) → Type 0
Waits true before now m old next = (was : plain.Machine) → Moves true before now m (next was)
Waits false before now m old next = (machine_of m ≡ old) × (now ≡ before) × ((was : plain.Machine) → next was ≡ plain.stays (plain.only was))

-- a machine at the end of a try, whose handler is before the rest
abbrev pub caught : plain.Machine → (variable : List ℕ) → Block → (fault : List ℕ) → plain.Machine
caught m variable handler fault = record m { variables = set_in m.variables variable (Text fault); rest = plain.todo handler ++ m.rest }

-- the step of what is to run, of a machine that has it behind it; with nothing to run it stays
abbrev pub todo_step : plain.Machine → plain.Machine → List plain.Todo → plain.Next
todo_step was m [] = plain.stays (plain.only was)
todo_step was m (plain.run statement ∷ rest) = plain.statement_step was m statement
todo_step was m (plain.wait_lock ∷ rest) = plain.lock_step was m m.section
todo_step was m (plain.unlock ∷ rest) = plain.goes (plain.leaving m m.section)
todo_step was m (plain.end_try variable handler ∷ rest) = plain.goes (plain.only m)

-- a statement that waits for no task
abbrev pub NeverWaits : Statement → Type 0
NeverWaits (await variable handle) = ⊥
NeverWaits (await_all variable handles) = ⊥
NeverWaits (await_any variable handles) = ⊥
NeverWaits other = Unit {0}
