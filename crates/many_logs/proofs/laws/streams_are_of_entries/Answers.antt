use Rattle.many_logs.proofs.Names.{order_of}
use Rattle.many_logs.proofs.laws.streams_are_of_entries.Goals as goal

pub returns : goal.returns
returns c = order_of
