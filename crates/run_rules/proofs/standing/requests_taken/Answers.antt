use Rattle.std.proofs.Common.{refl}
use Rattle.run_rules.proofs.standing.requests_taken.Goals as goal

pub returns-clause-once : goal.returns-clause-once
returns-clause-once c = λ flows. refl

pub returns-clause-twice : goal.returns-clause-twice
returns-clause-twice c = λ flows. refl
