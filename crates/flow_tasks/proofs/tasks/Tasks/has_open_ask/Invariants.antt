use Rattle.std.proofs.Common.{◌≡◌}
use Rattle.dura_value.specs.Views.{spot_of}
use Rattle.flow_syntax.specs.Machine.{has_open_ask}
use Rattle.flow_tasks.specs.Views.{tasks_of}
use Rattle.flow_tasks.proofs.OpenTasks.{asked}
use Rattle.flow_tasks.proofs.tasks.Tasks.has_open_ask.Given as goal

-- one of the other numbers is that of an ask, where there is one
abbrev pub invariant-loop-number : goal.invariant-loop-number
invariant-loop-number l = asked (spot_of l.spot) (tasks_of l.self) l.number-iterator ≡ has_open_ask (spot_of l.spot) (tasks_of l.self)
