-- What the arrival of a result changes in the tasks.
use Rattle.std.specs.Prelude.{ℕ, List, Bool, false, if◌then◌else◌, Option, Some, None}
use Rattle.flow_syntax.specs.Machine.{Task, Arrival, is_open, task_at, with_arrival}

-- a task that is there and has no result yet
abbrev pub can_arrive : Option Task → Bool
can_arrive None = false
can_arrive (Some task) = is_open task.arrival

-- the tasks once the result of one has arrived; one that isn't there, or has a result, stays as it is
abbrev pub tasks_with : List Task → ℕ → Arrival → List Task
tasks_with tasks number arrival = if can_arrive (task_at tasks number) then with_arrival tasks number arrival else tasks
