use Rattle.std.proofs.Common.{subst, sym}
use Rattle.commit_gate.specs.Unlost.{AreUnlost}
use Rattle.gate_bench.proofs.testing.test_often.Goals as goal

pub test_frame-requires : goal.test_frame-requires
test_frame-requires c = record { unlost = subst AreUnlost (sym c.deref.ensures.value) c.in_ok-ledgers.ensures }
