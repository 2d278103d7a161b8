use Rattle.std.proofs.Common.{sym, subst}
use Rattle.commit_gate.specs.Unlost.{AreUnlost}
use Rattle.gate_tests.proofs.Both.{both_unlost}
use Rattle.gate_tests.proofs.recovered_tests.recovered.Goals as goal

pub returns : goal.returns
returns g c = subst AreUnlost (sym c.both.ensures) (both_unlost c.reader.result c.ledger.result c.reader.ensures c.ledger.ensures)
