use Rattle.site_calls.proofs.Histories.{honest_before}
use Rattle.site_calls.proofs.laws.the_past_stays.Goals as goal

pub returns : goal.returns
returns c = honest_before
