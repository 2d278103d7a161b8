use Rattle.many_logs.proofs.Acked.{stays_there}
use Rattle.many_logs.proofs.laws.unread_stays.Goals as goal

pub returns : goal.returns
returns c = stays_there
