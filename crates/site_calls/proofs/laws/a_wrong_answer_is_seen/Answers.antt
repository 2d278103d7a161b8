use Rattle.site_calls.proofs.Histories.{wrong_examples}
use Rattle.site_calls.proofs.laws.a_wrong_answer_is_seen.Goals as goal

pub returns : goal.returns
returns c = wrong_examples
