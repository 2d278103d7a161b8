-- An effect leaves its instance no fewer tasks, and the activities that it asks for are new tasks.
use Rattle.std.proofs.Common.{◌≡◌, ◌≤◌, ℕ, length, Bool, true, false, List, [], Option, Some, None, refl, sym, subst, arith}
use Rattle.dura_model.proofs.Growing.{Grows, AllNew, resume_grows}
use Rattle.dura_model.specs.Deliveries.{Effect, ending, at_end, goes_on_from, begun, flow_of, beginning, to_absent, to_present, is_over, waited, raised_at, result_at, granted_at, at_stamp, to_instance, telling}
use Rattle.dura_model.specs.World.{Orchestration}
use Rattle.dura_value.specs.Ids.{Id}
use Rattle.dura_value.specs.Messages.{Reply, to_nobody, to_task, to_request, Answer, Body, start, raise, query, wait, result, operate, lock, granted, release, Message, was_raised as is_raised}
use Rattle.dura_value.specs.declared.data.Value.{Value}
use Rattle.flow_syntax.specs.Machine.{Machine, new_machine, Resumed, Event, started, resulted, was_raised, was_granted, resume}
use Rattle.flow_syntax.specs.Syntax.{Flows, Block}
use Rattle.task_laws.specs.Asked.{tasks_of}

-- an effect on an instance with so many tasks
pub record Adds (low : ℕ) (e : Effect) : Type 0 where
  pub more : low ≤ tasks_of e.instance
  pub fresh : AllNew low (tasks_of e.instance) e.asked

adds_same : (low : ℕ) (e : Effect) → tasks_of e.instance ≡ low → e.asked ≡ [] → Adds low e
adds_same low e is nothing = record { more = omega (arith, is); fresh = subst (AllNew low (tasks_of e.instance)) (sym nothing) tt }

-- ---- effects

at_end_adds : (low : ℕ) (r : Resumed) (waiting : List (Id × ℕ)) (before : List Message) (answer : Option Answer) → Grows low r → Adds low (at_end r waiting before answer)
at_end_adds low r waiting before None grows = record { more = grows.more; fresh = grows.fresh }
at_end_adds low r waiting before (Some answer) grows = record { more = grows.more; fresh = tt }

pub goes_on_adds : (o : Orchestration) (event : Event) (stamp : ℕ) (before : List Message) → Adds (length o.machine.tasks) (goes_on_from o event stamp before)
goes_on_adds o event stamp before = let r = resume o.machine event stamp in at_end_adds _ r o.waiting before (ending r.machine.progress) (resume_grows o.machine event stamp)

begun_adds : (from to : Id) (argument : Value) (reply : Reply) (stamp : ℕ) (body : Option Block) → Adds 0 (begun from to argument reply stamp body)
begun_adds from to argument reply stamp None = adds_same _ _ refl refl
begun_adds from to argument reply stamp (Some body) = goes_on_adds (record { machine = new_machine to (Some body); waiting = [] }) (started from argument reply) stamp (beginning to from reply)

absent_adds : (flows : Flows) (from to : Id) (stamp : ℕ) (body : Body) → Adds 0 (to_absent flows from to stamp body)
absent_adds flows from to stamp (start argument reply) = begun_adds from to argument reply stamp (flow_of flows to)
absent_adds flows from to stamp (wait number) = adds_same _ _ refl refl
absent_adds flows from to stamp (raise event value number) = adds_same _ _ refl refl
absent_adds flows from to stamp (query number) = adds_same _ _ refl refl
absent_adds flows from to stamp (result reply answer) = adds_same _ _ refl refl
absent_adds flows from to stamp (operate operation argument reply) = adds_same _ _ refl refl
absent_adds flows from to stamp (lock id task set index) = adds_same _ _ refl refl
absent_adds flows from to stamp (granted task) = adds_same _ _ refl refl
absent_adds flows from to stamp release = adds_same _ _ refl refl

waited_adds : (m : Machine) (waiting : List (Id × ℕ)) (from to : Id) (number : ℕ) (answer : Option Answer) → Adds (length m.tasks) (waited m waiting from to number answer)
waited_adds m waiting from to number None = adds_same _ _ refl refl
waited_adds m waiting from to number (Some answer) = adds_same _ _ refl refl

raised_adds : (o : Orchestration) (from to : Id) (stamp : ℕ) (event : List ℕ) (value : Value) (number : ℕ) (over : Bool) → Adds (length o.machine.tasks) (raised_at o from to stamp event value number over)
raised_adds o from to stamp event value number true = adds_same _ _ refl refl
raised_adds o from to stamp event value number false = goes_on_adds o (was_raised event value) stamp (telling to from number is_raised)

result_adds : (o : Orchestration) (stamp task : ℕ) (answer : Answer) (over : Bool) → Adds (length o.machine.tasks) (result_at o stamp task answer over)
result_adds o stamp task answer true = adds_same _ _ refl refl
result_adds o stamp task answer false = goes_on_adds o (resulted task answer) stamp []

granted_adds : (o : Orchestration) (stamp task : ℕ) (over : Bool) → Adds (length o.machine.tasks) (granted_at o stamp task over)
granted_adds o stamp task true = record { more = (resume_grows o.machine (was_granted task) stamp).more; fresh = tt }
granted_adds o stamp task false = goes_on_adds o (was_granted task) stamp []

present_adds : (o : Orchestration) (from to : Id) (stamp : ℕ) (body : Body) → Adds (length o.machine.tasks) (to_present o from to stamp body)
present_adds o from to stamp (start argument reply) = adds_same _ _ refl refl
present_adds o from to stamp (query number) = adds_same _ _ refl refl
present_adds o from to stamp (wait number) = waited_adds o.machine o.waiting from to number (ending o.machine.progress)
present_adds o from to stamp (raise event value number) = raised_adds o from to stamp event value number (is_over o.machine.progress)
present_adds o from to stamp (result to_nobody answer) = adds_same _ _ refl refl
present_adds o from to stamp (result (to_task task) answer) = result_adds o stamp task answer (is_over o.machine.progress)
present_adds o from to stamp (result (to_request number) answer) = adds_same _ _ refl refl
present_adds o from to stamp (granted task) = granted_adds o stamp task (is_over o.machine.progress)
present_adds o from to stamp (operate operation argument reply) = adds_same _ _ refl refl
present_adds o from to stamp (lock id task set index) = adds_same _ _ refl refl
present_adds o from to stamp release = adds_same _ _ refl refl

pub instance_adds : (flows : Flows) (there : Option Orchestration) (from to : Id) (stamp : ℕ) (body : Body) → Adds (tasks_of there) (to_instance flows there from to stamp body)
instance_adds flows None from to stamp body = absent_adds flows from to stamp body
instance_adds flows (Some o) from to stamp body = present_adds (at_stamp o stamp) from to stamp body
