use Rattle.std.proofs.Common.{◌≡◌, List, Some, None, refl, sym, subst}
use Rattle.flow_syntax.specs.Machine.{Task, Arrival, task_at, with_arrival}
use Rattle.flow_tasks.specs.OpenTasks.{AreThose}
use Rattle.flow_tasks.specs.Views.{kind_of}
use Rattle.flow_tasks.specs.declared.tasks.Kind.{Kind}
use Rattle.flow_tasks.specs.declared.open_tasks.OpenTasks.{OpenTasks}
use Rattle.flow_tasks.proofs.OpenTasks.{call_settles, listener_settles, other_settles, call_kind, other_kind}
use Rattle.flow_tasks.proofs.open_tasks.OpenTasks.leave_out.Goals as goal

pub returns-in-Event : goal.returns-in-Event
returns-in-Event c =
    let old = c.args.self.now in
    let new : OpenTasks = record { calls = old.calls; listeners = c.leave_out.new.self } in
    subst (λ (k : Kind). (tasks : List Task) (arrival : Arrival) → AreThose old tasks → task_at tasks c.args.number ≡ Some (record { kind = kind_of k; arrival = None }) → AreThose new (with_arrival tasks c.args.number arrival)) (sym c.in-Event.is)
    (listener_settles old new c.in-Event.name c.args.number refl c.leave_out.ensures)

pub returns-in-Flow : goal.returns-in-Flow
returns-in-Flow c =
    let kind = call_kind c.args.kind.now c.in-Flow.is in
    call_settles c.args.self.now (record { calls = c.remove.new.self; listeners = c.args.self.now.listeners }) (kind_of c.args.kind.now) c.args.number kind.1 c.remove.ensures.keys refl

pub returns-in-Activity : goal.returns-in-Activity
returns-in-Activity c =
    let kind = other_kind c.args.kind.now c.in-Activity.is in
    other_settles c.args.self.now c.args.self.now (kind_of c.args.kind.now) c.args.number kind.0 kind.1 refl refl

pub returns-in-Activity-2 : goal.returns-in-Activity-2
returns-in-Activity-2 c =
    let kind = other_kind c.args.kind.now c.in-Activity.is in
    other_settles c.args.self.now c.args.self.now (kind_of c.args.kind.now) c.args.number kind.0 kind.1 refl refl

pub returns-in-Activity-3 : goal.returns-in-Activity-3
returns-in-Activity-3 c =
    let kind = other_kind c.args.kind.now c.in-Activity.is in
    other_settles c.args.self.now c.args.self.now (kind_of c.args.kind.now) c.args.number kind.0 kind.1 refl refl
