use Rattle.std.proofs.Common.{◌≡◌}
use Rattle.std.specs.List.{All}
use Rattle.gate_bench.proofs.testing.floors_of.Given as goal

abbrev pub invariant-loop : goal.invariant-loop
invariant-loop l = All (λ floor. floor.incarnation ≡ 0) l.floors.items
