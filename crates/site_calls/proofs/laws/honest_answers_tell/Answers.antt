use Rattle.site_calls.proofs.Histories.{honest_example}
use Rattle.site_calls.proofs.laws.honest_answers_tell.Goals as goal

pub returns : goal.returns
returns c = honest_example
