use Rattle.std.proofs.Common.{sym, subst}
use Rattle.commit_gate.specs.Unlost.{AreUnlost}
use Rattle.gate_tests.proofs.recovered_tests.check_fresh.Goals as goal

pub check_line-requires : goal.check_line-requires
check_line-requires g c = subst AreUnlost (sym c.as_slice.ensures.value) c.recovered-ledgers.ensures
