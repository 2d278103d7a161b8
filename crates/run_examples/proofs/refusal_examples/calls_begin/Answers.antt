use Rattle.std.proofs.Common.{◌≡◌, [], ◌∷◌, arith}
use Rattle.part_items.specs.Examples.{taking}
use Rattle.run_examples.proofs.Fit.{none_kept, none_whole, one_kept}
use Rattle.run_examples.proofs.LogsKept.{fresh_kept}
use Rattle.run_examples.proofs.Ready.{asks_here}
use Rattle.run_examples.specs.Directories.{earlier_log}
use Rattle.run_examples.proofs.refusal_examples.calls_begin.Goals as goal

pub returns-clause-fresh : goal.returns-clause-fresh
returns-clause-fresh c = none_kept

pub returns-clause-earlier_asks : goal.returns-clause-earlier_asks
returns-clause-earlier_asks c = asks_here earlier_log

pub returns-clause-earlier : goal.returns-clause-earlier
returns-clause-earlier c = one_kept

pub returns-clause-torn : goal.returns-clause-torn
returns-clause-torn c = none_whole

pub returns-clause-one_more : goal.returns-clause-one_more
returns-clause-one_more c = λ kept.
    let there = kept.kept 0 (omega arith) in
    let wrong : [] ≡ taking 0 ∷ [] = cc (fresh_kept, there) in
    cc wrong
