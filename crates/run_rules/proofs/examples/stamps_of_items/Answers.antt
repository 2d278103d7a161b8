use Rattle.std.proofs.Common.{arith}
use Rattle.run_rules.proofs.examples.stamps_of_items.Goals as goal

pub returns-clause-then : goal.returns-clause-then
returns-clause-then c = λ id task. omega arith

pub returns-clause-earlier : goal.returns-clause-earlier
returns-clause-earlier c = λ id task low. omega (arith, low)

pub returns-clause-delivered : goal.returns-clause-delivered
returns-clause-delivered c = λ from to low. omega (arith, low)

pub returns-clause-taken : goal.returns-clause-taken
returns-clause-taken c = tt
