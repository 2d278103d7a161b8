use Rattle.many_rules.proofs.Meeting.{gate_follows}
use Rattle.many_rules.proofs.laws.what_is_met_follows.Goals as goal

pub returns : goal.returns
returns c rules latest trail told partition going made numbered follows = gate_follows rules made latest trail told partition going numbered follows
