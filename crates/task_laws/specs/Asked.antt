-- Which tasks a partition's instances have: what was asked for there.
use Rattle.std.specs.Prelude.{ℕ, ◌<◌, length, Option, None, Some, IsSome}
use Rattle.dura_model.specs.Partition.{Partition, instance_at}
use Rattle.dura_model.specs.World.{Orchestration}
use Rattle.dura_value.specs.Ids.{Id}
use Rattle.dura_value.specs.Items.{Item, took, got, ran, ended, fired, trim}
use Rattle.flow_syntax.specs.Syntax.{Flows}

-- how many tasks an instance has, where it is there
abbrev pub tasks_of : Option Orchestration → ℕ
tasks_of None = 0
tasks_of (Some o) = length o.machine.tasks

-- how many tasks an instance has in a partition's state
abbrev pub tasks_at : Flows → Partition → Id → ℕ
tasks_at flows p id = tasks_of (instance_at flows p id)

-- an outcome is of an activity that was asked for
abbrev pub WasAsked : Flows → Partition → Item → Type 0
WasAsked flows p (took message) = Unit {0}
WasAsked flows p (got source number message) = Unit {0}
WasAsked flows p (ran from to stamp) = Unit {0}
WasAsked flows p (ended id task outcome) = task < tasks_at flows p id
WasAsked flows p (fired id task stamp) = Unit {0}
WasAsked flows p (trim reader number) = Unit {0}

-- each pending activity was asked for
abbrev pub AreAsked : Flows → Partition → Type 0
AreAsked flows p = (id : Id) (task : ℕ) → IsSome (p.activities id task) → task < tasks_at flows p id
