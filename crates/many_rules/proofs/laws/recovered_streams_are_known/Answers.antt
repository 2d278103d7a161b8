use Rattle.many_rules.proofs.FirstLedgers.{streams_known}
use Rattle.many_rules.proofs.laws.recovered_streams_are_known.Goals as goal

pub returns : goal.returns
returns c = streams_known
