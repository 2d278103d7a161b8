-- Tasks without a result, and the numbers by which they are found.
use Rattle.std.specs.Prelude.{◌≡◌, ℕ, suc, List, [], ◌∷◌, Bool, false, ◌&&◌, if◌then◌else◌, Option, Some, None}
use Rattle.dura_value.specs.Messages.{Spot}
use Rattle.flow_syntax.specs.Machine.{Task, is_call, asks_spot, listens_for, is_open}
use Rattle.flow_tasks.specs.Numbers.{numbers_in}
use Rattle.flow_tasks.specs.declared.open_tasks.OpenTasks.{OpenTasks}

-- an ask or a started flow
abbrev pub is_open_call : Task → Bool
is_open_call task = is_call task.kind && is_open task.arrival

-- a handle of this name
abbrev pub is_listener : List ℕ → Task → Bool
is_listener name task = listens_for name task.kind && is_open task.arrival

-- an ask of this entity
abbrev pub is_open_ask : Spot → Task → Bool
is_open_ask spot task = asks_spot spot task.kind && is_open task.arrival

-- whether there is a task, which passes a test
abbrev pub passes_at : (Task → Bool) → Option Task → Bool
passes_at test None = false
passes_at test (Some task) = test task

-- the numbers of those that pass a test, where the first task has this one
abbrev pub numbers_from : (Task → Bool) → ℕ → List Task → List ℕ
numbers_from test number [] = []
numbers_from test number (task ∷ tasks) = if test task then number ∷ numbers_from test (suc number) tasks else numbers_from test (suc number) tasks

-- These are the numbers of those that are looked for.
pub record AreThose (index : OpenTasks) (tasks : List Task) : Type 0 where
  pub calls : index.calls.keys ≡ numbers_from is_open_call 0 tasks
  pub listeners : (name : List ℕ) → numbers_in index.listeners name ≡ numbers_from (is_listener name) 0 tasks
