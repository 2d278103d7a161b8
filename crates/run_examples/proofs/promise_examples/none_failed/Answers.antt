use Rattle.std.proofs.Common.{◌≡◌, ap, refl, arith}
use Rattle.cluster_run.specs.Faults.{Faults}
use Rattle.run_examples.proofs.promise_examples.none_failed.Goals as goal

pub returns-clause-none : goal.returns-clause-none
returns-clause-none c = record { same = refl; disk = omega arith; tape = omega arith; clock = omega arith }

pub returns-clause-same : goal.returns-clause-same
returns-clause-same c = λ none. let wrong : 1 ≡ 0 = ap (λ (f : Faults). f.clock) none.same in omega (arith, wrong)

pub returns-clause-disk : goal.returns-clause-disk
returns-clause-disk c = λ none. let room = none.disk in omega (arith, room)

pub returns-clause-tape : goal.returns-clause-tape
returns-clause-tape c = λ none. let room = none.tape in omega (arith, room)

pub returns-clause-clock : goal.returns-clause-clock
returns-clause-clock c = λ none. let room = none.clock in omega (arith, room)
