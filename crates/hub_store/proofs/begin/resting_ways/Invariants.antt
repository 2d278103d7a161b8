use Rattle.std.proofs.Common.{◌≡◌}
use Rattle.std.specs.Prelude.{map}
use Rattle.hub_store.specs.declared.way.Way.TheVariants.{Resting}
use Rattle.hub_store.proofs.begin.resting_ways.Given as goal

abbrev pub invariant-loop-log : goal.invariant-loop-log
invariant-loop-log l = l.ways.items ≡ map Resting l.yielded
