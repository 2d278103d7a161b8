use Rattle.site_calls.proofs.Histories.{honest_answers}
use Rattle.site_calls.proofs.laws.an_honest_answer_exists.Goals as goal

pub returns : goal.returns
returns c = honest_answers
