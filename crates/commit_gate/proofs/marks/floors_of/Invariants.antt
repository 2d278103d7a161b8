use Rattle.std.proofs.Common.{◌≡◌, take}
use Rattle.std.specs.List.{flat_map}
use Rattle.commit_gate.specs.declared.ledger.Ledger.{Ledger}
use Rattle.commit_gate.proofs.marks.floors_of.Given as goal

abbrev pub invariant-loop-ledger : goal.invariant-loop-ledger
invariant-loop-ledger l = l.floors.items ≡ flat_map (λ (x : Ledger). x.floors.items) (take l.ledger-index l.ledgers)
