use Rattle.dura_value.specs.Views.{identity_of}
use Rattle.commit_gate.proofs.Floors.{KeptBelow}
use Rattle.commit_gate.proofs.ledger.Ledger.floor_under.Given as goal

abbrev pub invariant-loop-floor : goal.invariant-loop-floor
invariant-loop-floor l = KeptBelow l.floor-items (identity_of l.e) l.floor-index
