use Rattle.std.proofs.Common.{◌≡◌, drop, ◌++◌, Ok}
use Rattle.flow_syntax.specs.Eval.{◌>>=◌}
use Rattle.flow_syntax.specs.Machine.{scalar_handles}
use Rattle.flow_tasks.specs.Views.{tasks_of}
use Rattle.flow_tasks.proofs.tasks.Tasks.scalar_handles.Given as goal

-- the tasks so far, and those of the rest
abbrev pub invariant-loop-scalar : goal.invariant-loop-scalar
invariant-loop-scalar l = (scalar_handles (tasks_of l.self) (drop l.scalar-index l.scalars) >>= λ more. Ok (l.handles.items ++ more)) ≡ scalar_handles (tasks_of l.self) l.scalars
