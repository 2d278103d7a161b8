use Rattle.std.proofs.Common.{◌∙◌, List, ap, is_some}
use Rattle.std.specs.List.{slice_get}
use Rattle.flow_syntax.specs.Machine.{has_open_call}
use Rattle.flow_tasks.specs.declared.tasks.Task.{Task}
use Rattle.flow_tasks.specs.Views.{tasks_of}
use Rattle.flow_tasks.proofs.OpenTasks.{first_call, some_first}
use Rattle.flow_tasks.proofs.tasks.Tasks.has_open_call.Goals as goal

pub returns : goal.returns
returns c =
    c.is_some.ensures
    ∙ some_first c.first.result c.self.inside.index.calls.keys c.first.ensures.variant
    ∙ ap (λ numbers. is_some (slice_get numbers 0)) c.self.invariant.calls
    ∙ first_call (tasks_of c.self.inside.tasks.items)
    ∙ ap (λ (tasks : List Task). has_open_call (tasks_of tasks)) c.self.view_is
