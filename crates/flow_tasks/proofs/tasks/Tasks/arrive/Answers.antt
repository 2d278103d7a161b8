use Rattle.std.proofs.Common.{◌≡◌, ◌∙◌, ◌<◌, ap, sym, subst, List, length, get_or, rules, true}
use Rattle.std.proofs.Math.ListN.{set}
use Rattle.flow_syntax.specs.Machine.{Arrival, task_at}
use Rattle.flow_tasks.specs.Changes.{can_arrive}
use Rattle.flow_tasks.specs.OpenTasks.{AreThose}
use Rattle.flow_tasks.specs.Views.{tasks_of}
use Rattle.flow_tasks.specs.declared.tasks.Task.{Task}
use Rattle.flow_tasks.proofs.Places.{arrived_at, written, open_there}
use Rattle.flow_tasks.proofs.tasks.Tasks.arrive.Goals as goal

pub invariant_of-self : goal.invariant_of-self
invariant_of-self c =
    let tasks : List Task = c.self.inside.tasks.items in
    let arrival : Arrival = record { outcome = c.args.outcome; order = c.args.order } in
    let here : c.args.number < length c.args.self.now = search rules in
    let inside : c.args.number < length tasks = (let Within : List Task → Type 0 = λ l. c.args.number < length l in subst Within (sym c.self.view_is) here) in
    let can : can_arrive (task_at (tasks_of tasks) c.args.number) ≡ true = ap (λ (l : List Task). can_arrive (task_at (tasks_of l) c.args.number)) c.self.view_is ∙ sym c.if-arrives.ensures.result in
    let left = c.leave_out.ensures (tasks_of tasks) arrival c.self.invariant (open_there tasks c.args.number c.index.result.now inside c.index.ensures can) in
    subst (AreThose c.leave_out.new.self) (sym (written tasks c.args.number c.index_mut.result.now c.settle.new.self arrival inside c.index_mut.ensures.value c.settle.ensures)) left

pub returns-then-arrives-clause-tasks : goal.returns-then-arrives-clause-tasks
returns-then-arrives-clause-tasks c =
    let at : c.index_mut.result.now ≡ get_or c.args.self.now c.args.number c.index_mut.result.now =
    c.index_mut.ensures.value ∙ ap (λ (l : List Task). get_or l c.args.number c.index_mut.result.now) c.self.view_is in
    ap (λ (l : List Task). tasks_of (set l c.args.number c.settle.new.self)) c.self.view_is
    ∙ arrived_at c.args.self.now c.args.number c.index_mut.result.now c.settle.new.self _ (search rules) at (sym c.if-arrives.ensures.result) c.settle.ensures
