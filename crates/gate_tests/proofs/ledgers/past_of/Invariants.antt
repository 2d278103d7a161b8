use Rattle.std.proofs.Common.{◌≡◌, take}
use Rattle.gate_tests.proofs.ledgers.past_of.Given as goal

abbrev pub invariant-loop-incarnation : goal.invariant-loop-incarnation
invariant-loop-incarnation g l = l.past ≡ take l.incarnation-index l.incarnations
