use Rattle.std.proofs.Common.{[], ◌∷◌, refl, arith}
use Rattle.dura_value.specs.Dependencies.{Lost}
use Rattle.spec_tracker.specs.Examples.{begun, entry}
use Rattle.spec_tracker.proofs.examples.verdicts.Goals as goal

given_up : Lost (begun ∷ []) (entry 1 5)
given_up = record { floor = begun; there = (0, omega arith, refl); partition = refl; later = omega arith; below = omega arith }

pub returns-clause-lost : goal.returns-clause-lost
returns-clause-lost c = given_up

pub returns-clause-not_ready : goal.returns-clause-not_ready
returns-clause-not_ready c = λ ready. ready.kept given_up
