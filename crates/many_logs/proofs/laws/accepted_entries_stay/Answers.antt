use Rattle.std.proofs.Common.{sym}
use Rattle.many_logs.proofs.Apart.{stays}
use Rattle.many_logs.proofs.laws.accepted_entries_stay.Goals as goal

pub returns : goal.returns
returns c flows count parts partition other entry more next also apart one first = stays flows count parts other partition more entry also next (λ is. apart (sym is)) first one
