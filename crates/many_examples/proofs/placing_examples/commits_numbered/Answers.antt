use Rattle.std.proofs.Common.{◌≡◌, arith}
use Rattle.many_examples.proofs.placing_examples.commits_numbered.Goals as goal

pub returns-clause-late : goal.returns-clause-late
returns-clause-late c = λ numbered. let at : 1 ≡ 0 = (numbered 1).0 in omega (arith, at)

pub returns-clause-again : goal.returns-clause-again
returns-clause-again c = λ numbered. let at : 0 ≡ 1 = (numbered 0).2.0 in omega (arith, at)
