use Rattle.std.proofs.Common.{◌-◌}
use Rattle.flow_syntax.specs.Machine.{go, most_steps}
use Rattle.flow_machine.specs.Views.{machine_of}
use Rattle.flow_machine.specs.Steps.{Leads}
use Rattle.flow_replay.proofs.going.go.Given as goal

-- what the steps that are left make leads to what all of them make
abbrev pub invariant-loop : goal.invariant-loop
invariant-loop l = Leads l.initial.made l.made (go (most_steps - l.counter) (machine_of l.machine)) (go most_steps (machine_of l.initial.machine))
