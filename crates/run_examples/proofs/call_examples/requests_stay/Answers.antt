use Rattle.std.proofs.Common.{◌≡◌, true, false, codes, refl}
use Rattle.dura_value.specs.Ids.{client}
use Rattle.run_examples.proofs.call_examples.requests_stay.Goals as goal

pub returns-clause-same : goal.returns-clause-same
returns-clause-same c = record { taken = λ who number is. is; answered = λ who number is. is }

pub returns-clause-lost : goal.returns-clause-lost
returns-clause-lost c = λ keeps. let wrong : false ≡ true = keeps.taken (client (codes "a")) 1 refl in cc wrong

pub returns-clause-taken : goal.returns-clause-taken
returns-clause-taken c = λ who number is. absurd (cc is)

pub returns-clause-not_taken : goal.returns-clause-not_taken
returns-clause-not_taken c = λ rightly. let wrong : false ≡ true = rightly (client (codes "a")) 1 refl in cc wrong
