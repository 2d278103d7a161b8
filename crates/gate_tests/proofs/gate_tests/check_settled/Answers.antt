use Rattle.std.proofs.Common.{sym, subst}
use Rattle.commit_gate.specs.Unlost.{AreUnlost}
use Rattle.gate_tests.proofs.gate_tests.check_settled.Goals as goal

pub check_line-requires : goal.check_line-requires
check_line-requires g c = subst AreUnlost (sym c.as_slice.ensures.value) c.settled-ledgers.ensures
