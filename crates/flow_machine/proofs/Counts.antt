-- How many tasks there are.
use Rattle.std.proofs.Common.{◌≡◌, List, length, sym}
use Rattle.std.proofs.lemmas.List.{length-map}
use Rattle.flow_tasks.specs.declared.tasks.Task.{Task}
use Rattle.flow_tasks.specs.Views.{task_of, tasks_of}

pub tasks_counted : (tasks : List Task) → length tasks ≡ length (tasks_of tasks)
tasks_counted tasks = sym (length-map tasks task_of)
