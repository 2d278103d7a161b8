-- The plain data that machines, events and what machines make stand for.
use Rattle.std.specs.Prelude.{List, [], ◌∷◌, ◌++◌, map, pos, option_map}
use Rattle.std.specs.Borrow.{Bor}
use Rattle.dura_value.specs.declared.data.Scalar.TheVariants.{Int}
use Rattle.dura_value.specs.Views.{id_of, reply_of}
use Rattle.flow_syntax.specs.declared.syntax.Stmt.{Stmt}
use Rattle.flow_syntax.specs.Syntax.{Block, scalar, await}
use Rattle.flow_syntax.specs.Views.{block_of}
use Rattle.flow_syntax.specs.Machine as plain
use Rattle.flow_tasks.specs.Views.{tasks_of, section_of, raised_of}
use Rattle.flow_machine.specs.declared.machine.Todo.{Todo}
use Rattle.flow_machine.specs.declared.machine.Todo.TheVariants as todos
use Rattle.flow_machine.specs.declared.machine.Progress.{Progress}
use Rattle.flow_machine.specs.declared.machine.Progress.TheVariants as progresses
use Rattle.flow_machine.specs.declared.machine.Machine.{Machine}

abbrev pub body_of : Bor (List Stmt) → Block
body_of body = block_of body.now

-- what stands for one thing to do
abbrev pub todos_of : Todo → List plain.Todo
todos_of (todos.Body body) = plain.todo (body_of body)
todos_of (todos.Await variable task) = plain.run (await variable.now (scalar (Int (pos task)))) ∷ []
todos_of todos.WaitLock = plain.wait_lock ∷ []
todos_of todos.Unlock = plain.unlock ∷ []
todos_of (todos.EndTry variable handler) = plain.end_try variable.now (body_of handler) ∷ []

-- what is still to run, of which the last comes first
abbrev pub rest_of : List Todo → List plain.Todo
rest_of [] = []
rest_of (one ∷ more) = rest_of more ++ todos_of one

abbrev pub progress_of : Progress → plain.Progress
progress_of progresses.Unborn = plain.unborn
progress_of progresses.Running = plain.running
progress_of (progresses.Done value) = plain.done value
progress_of (progresses.Failed text) = plain.failed text

abbrev pub machine_of : Machine → plain.Machine
machine_of m = record {
  id = id_of m.id;
  body = option_map body_of m.body;
  starter = id_of m.starter;
  reply = reply_of m.reply;
  variables = m.variables;
  rest = rest_of m.rest.items;
  tasks = tasks_of m.tasks;
  arrivals = m.arrivals;
  kept = map raised_of m.kept;
  section = section_of m.section;
  last = m.last;
  events = m.events;
  progress = progress_of m.progress;
}
