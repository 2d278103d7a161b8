-- Calls to look at by what they say, and by what is said of their end.
use Rattle.std.specs.Prelude.{ℕ, List, [], Option}
use Rattle.client_port.specs.Ports.{Queue}
use Rattle.engine_rounds.specs.Halts.{HaltsFor}
use Rattle.engine_rounds.specs.Served.{SaysOn}
use Rattle.engine_rounds.specs.declared.serving.Came.{Came}
use Rattle.hub_store.specs.Origin.{Origin, no_entry}
use Rattle.node_core.specs.declared.halt.Halt.{Halt}
use Rattle.run_examples.specs.Clocks.{delivered_often, one_at_a_time}
use Rattle.run_examples.specs.States.{asker, sum}
use Rattle.site_model.specs.History.{Step}

-- one partition, whose log is empty
abbrev pub one_log : Origin
one_log = record { count = 1; logs = λ partition. no_entry 16; steps = [] }

-- A call of no clients settled so many deliveries, where one label is enough, on a site that tells.
abbrev pub SaysOfMany : (now : List Step) → (times : ℕ) → Came → Option (List Queue) → Type 0
SaysOfMany now times came port = SaysOn one_at_a_time one_log 4096 1 0 (Unit {0}) now (delivered_often times asker sum) came port

-- a call that settled nothing halts for this, where logs stay below 4,096 bytes
abbrev pub HaltsWith : Halt → Type 0
HaltsWith halt = HaltsFor one_at_a_time one_log 4096 0 (Unit {0}) [] [] [] halt
