use Rattle.std.proofs.Common.{◌∙◌, List, ap}
use Rattle.dura_value.specs.Views.{spot_of}
use Rattle.flow_tasks.specs.OpenTasks.{numbers_from, is_open_call}
use Rattle.flow_tasks.specs.Views.{tasks_of}
use Rattle.flow_tasks.specs.declared.tasks.Task.{Task}
use Rattle.flow_tasks.proofs.OpenTasks.{asked, ask_among}
use Rattle.flow_tasks.proofs.tasks.Tasks.has_open_ask.Goals as goal

pub loop-number-init : goal.loop-number-init
loop-number-init c =
    let spot = spot_of c.args.spot.now in
    ap (asked spot (tasks_of c.args.self.now)) (c.into_iter-number-iterator.ensures.into_iter_gives.0 ∙ c.self.invariant.calls ∙ ap (λ (tasks : List Task). numbers_from is_open_call 0 (tasks_of tasks)) c.self.view_is)
    ∙ ask_among spot (tasks_of c.args.self.now)
