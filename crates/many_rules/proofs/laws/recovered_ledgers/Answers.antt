use Rattle.many_rules.proofs.FirstLedgers.{begins_with, none_read_past}
use Rattle.many_rules.proofs.laws.recovered_ledgers.Goals as goal

pub returns-clause-shown : goal.returns-clause-shown
returns-clause-shown c = begins_with

pub returns-clause-unread : goal.returns-clause-unread
returns-clause-unread c = none_read_past
