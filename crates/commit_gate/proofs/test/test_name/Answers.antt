use Rattle.std.proofs.Common.{length, sym}
use Rattle.std.proofs.lemmas.Bool.{ltb-true}
use Rattle.dura_value.specs.Views.{identity_of}
use Rattle.commit_gate.proofs.Losing.{known_ready}
use Rattle.commit_gate.proofs.test.test_name.Goals as goal

pub returns-then-knows-clause-ok : goal.returns-then-knows-clause-ok
returns-then-knows-clause-ok c =
    known_ready c.args.ledgers.now (identity_of c.args.dep) c.in-Some.ledger.now c.requires.unlost (ltb-true c.args.dep.partition (length c.args.ledgers.now) (sym c.in-Some.ensures.lookup.0)) c.in-Some.ensures.lookup.1 (c.knows.ensures.0 c.if-knows.true)
