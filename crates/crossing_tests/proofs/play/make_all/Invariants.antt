use Rattle.crossing_tests.specs.Standing.{Stands}
use Rattle.crossing_tests.proofs.play.make_all.Given as goal

-- the store stands at its places
abbrev pub invariant-loop-made : goal.invariant-loop-made
invariant-loop-made g l = Stands l.store l.places
