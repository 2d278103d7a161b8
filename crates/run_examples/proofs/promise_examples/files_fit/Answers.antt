use Rattle.std.proofs.Common.{refl, arith}
use Rattle.part_items.specs.Examples.{empty_log}
use Rattle.run_examples.proofs.Fit.{fit_here, asks_badly, stands_badly}
use Rattle.run_examples.proofs.Ready.{asks_here}
use Rattle.run_examples.proofs.promise_examples.files_fit.Goals as goal
use Rattle.run_examples.specs.Calls.{by_steps}

pub returns-clause-fit : goal.returns-clause-fit
returns-clause-fit c = fit_here

pub returns-clause-asks : goal.returns-clause-asks
returns-clause-asks c = asks_badly

pub returns-clause-stand : goal.returns-clause-stand
returns-clause-stand c = (asks_here empty_log, stands_badly)

pub returns-clause-sound : goal.returns-clause-sound
returns-clause-sound c = λ words asked sound. sound tt (by_steps 1) asked fit_here (record { same = refl; disk = omega arith; tape = omega arith; clock = omega arith })
