use Rattle.std.proofs.Common.{◌∙◌, List, ap}
use Rattle.std.specs.List.{slice_get}
use Rattle.flow_syntax.specs.Machine.{oldest_listener}
use Rattle.flow_tasks.specs.declared.tasks.Task.{Task}
use Rattle.flow_tasks.specs.Views.{tasks_of}
use Rattle.flow_tasks.proofs.OpenTasks.{first_listener}
use Rattle.flow_tasks.proofs.tasks.Tasks.oldest_listener.Goals as goal

pub returns : goal.returns
returns c =
    c.first.ensures
    ∙ ap (λ numbers. slice_get numbers 0) (c.self.invariant.listeners c.args.name.now)
    ∙ first_listener c.args.name.now (tasks_of c.self.inside.tasks.items)
    ∙ ap (λ (tasks : List Task). oldest_listener c.args.name.now (tasks_of tasks)) c.self.view_is
