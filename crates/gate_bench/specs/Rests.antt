-- What others see of a partition that is alone, while nothing is under way.
use Rattle.std.specs.Prelude.{◌≡◌}
use Rattle.commit_gate.specs.Keeping.{IsSized}
use Rattle.commit_gate.specs.Views.{ledger_of, whole_of}
use Rattle.commit_gate.specs.declared.ledger.Ledger.{Ledger}

pub record Rests (ledger : Ledger) : Type 0 where
  pub rests : whole_of ledger ≡ ledger_of ledger
  pub sized : IsSized 1 ledger
