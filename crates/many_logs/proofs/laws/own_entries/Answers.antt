use Rattle.many_logs.proofs.Own.{own_chain, chain_goes, chain_given}
use Rattle.many_logs.proofs.laws.own_entries.Goals as goal

pub returns-clause-own : goal.returns-clause-own
returns-clause-own c = own_chain

pub returns-clause-ready : goal.returns-clause-ready
returns-clause-ready c = chain_goes

pub returns-clause-given : goal.returns-clause-given
returns-clause-given c = chain_given
