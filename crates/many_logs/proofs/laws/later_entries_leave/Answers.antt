use Rattle.std.proofs.Common.{arith}
use Rattle.many_logs.proofs.Streams.{chain_leaves}
use Rattle.many_logs.proofs.laws.later_entries_leave.Goals as goal

pub returns-clause-sent : goal.returns-clause-sent
returns-clause-sent c flows count entries p next made target number source message early is =
    (chain_leaves flows count p.position entries p next (omega arith) made).sent target source number message early is

pub returns-clause-read : goal.returns-clause-read
returns-clause-read c flows count entries p next made source early = (chain_leaves flows count p.position entries p next (omega arith) made).read source early
