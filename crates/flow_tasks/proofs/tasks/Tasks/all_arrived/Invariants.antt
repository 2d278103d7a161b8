use Rattle.std.proofs.Common.{◌≡◌, drop}
use Rattle.flow_syntax.specs.Machine.{all_arrived}
use Rattle.flow_tasks.specs.Views.{tasks_of}
use Rattle.flow_tasks.proofs.Places.{behind}
use Rattle.flow_tasks.proofs.tasks.Tasks.all_arrived.Given as goal

-- the results so far, and those of the rest
abbrev pub invariant-loop-handle : goal.invariant-loop-handle
invariant-loop-handle l = behind l.outcomes.items (all_arrived (tasks_of l.self) (drop l.handle-index l.handles)) ≡ all_arrived (tasks_of l.self) l.handles
