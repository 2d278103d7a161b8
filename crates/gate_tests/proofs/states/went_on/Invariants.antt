use Rattle.std.proofs.Common.{◌≡◌}
use Rattle.part_steps.specs.States.{IsSound, count_of}
use Rattle.gate_tests.proofs.states.went_on.Given as goal

abbrev pub invariant-loop-number : goal.invariant-loop-number
invariant-loop-number g l = record { sound : IsSound l.state; among : count_of l.state ≡ 2 }
