use Rattle.std.proofs.Common.{◌≡◌, ◌≤◌, arith}
use Rattle.many_examples.proofs.makes_examples.calls_behind.Goals as goal

pub returns-clause-first : goal.returns-clause-first
returns-clause-first c = λ flows partition. tt

pub returns-clause-incarnations : goal.returns-clause-incarnations
returns-clause-incarnations c = λ numbered. let falls : 1 ≤ 0 = (numbered 1).2.1 in omega (arith, falls)

pub returns-clause-numbered : goal.returns-clause-numbered
returns-clause-numbered c = λ flows numbered. let gap : 1 ≡ 0 = (numbered 0).0 in omega (arith, gap)
