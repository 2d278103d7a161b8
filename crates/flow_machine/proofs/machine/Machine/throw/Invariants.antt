use Rattle.std.proofs.Common.{length}
use Rattle.flow_syntax.specs.Machine.{thrown, throws}
use Rattle.flow_machine.specs.Views.{machine_of, rest_of}
use Rattle.flow_machine.specs.Steps.{Leads}
use Rattle.flow_machine.proofs.machine.Machine.throw.Given as goal

-- what the fault does from here on leads to what it does
abbrev pub invariant-loop-todo : goal.invariant-loop-todo
invariant-loop-todo l =
    Leads l.initial.made l.made (thrown (machine_of l.self) l.fault (rest_of l.self.rest.items)) (throws (machine_of l.initial.self) l.fault)

abbrev pub decreases-loop-todo : goal.decreases-loop-todo
decreases-loop-todo l = length l.self.rest.items
