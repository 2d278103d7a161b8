use Rattle.std.proofs.Common.{refl, arith}
use Rattle.run_examples.proofs.call_examples.files_ask.Goals as goal
use Rattle.run_inputs.proofs.Computed.{flows_of_one, requests_of_one, refusal_good}

pub returns-clause-held : goal.returns-clause-held
returns-clause-held c = record { flows_in_file = flows_of_one; digest_of_file = refl; requests_in_file = requests_of_one; accepted = refusal_good }

pub returns-clause-no_request : goal.returns-clause-no_request
returns-clause-no_request c = λ asks. cc (requests_of_one, asks.requests_in_file)

pub returns-clause-other_digest : goal.returns-clause-other_digest
returns-clause-other_digest c = λ asks. let same = asks.digest_of_file in omega (arith, same)
