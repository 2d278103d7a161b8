use Rattle.std.proofs.Common.{◌≡◌, ◌≤◌, length, drop, option_map}
use Rattle.flow_syntax.specs.Machine.{first_arrived}
use Rattle.flow_tasks.specs.Views.{tasks_of, candidate_of}
use Rattle.flow_tasks.proofs.tasks.Tasks.first_arrived.Given as goal

-- the best one of those behind
abbrev pub invariant-loop-left : goal.invariant-loop-left
invariant-loop-left l = (l.left ≤ length l.handles) × (option_map candidate_of l.best ≡ first_arrived (tasks_of l.self) l.left (drop l.left l.handles))

abbrev pub decreases-loop-left : goal.decreases-loop-left
decreases-loop-left l = l.left
