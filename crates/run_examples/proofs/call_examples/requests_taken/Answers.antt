use Rattle.std.proofs.Common.{◌≡◌, true, false, refl}
use Rattle.run_examples.proofs.call_examples.requests_taken.Goals as goal

pub returns-clause-request : goal.returns-clause-request
returns-clause-request c = refl

pub returns-clause-other_number : goal.returns-clause-other_number
returns-clause-other_number c = λ is. let wrong : false ≡ true = is in cc wrong

pub returns-clause-other_client : goal.returns-clause-other_client
returns-clause-other_client c = λ is. let wrong : false ≡ true = is in cc wrong
