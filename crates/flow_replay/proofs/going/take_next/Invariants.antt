use Rattle.std.proofs.Common.{◌≡◌, length}
use Rattle.flow_machine.specs.Views.{machine_of}
use Rattle.flow_replay.proofs.going.take_next.Given as goal

-- only bodies without a statement were taken out
abbrev pub invariant-loop-todo : goal.invariant-loop-todo
invariant-loop-todo l = machine_of l.machine ≡ machine_of l.initial.machine

abbrev pub decreases-loop-todo : goal.decreases-loop-todo
decreases-loop-todo l = length l.machine.rest.items
