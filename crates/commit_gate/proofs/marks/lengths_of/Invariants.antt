use Rattle.std.proofs.Common.{◌≡◌, map, take}
use Rattle.commit_gate.specs.Marking.{length_of}
use Rattle.commit_gate.proofs.marks.lengths_of.Given as goal

abbrev pub invariant-loop-ledger : goal.invariant-loop-ledger
invariant-loop-ledger l = l.lengths.items ≡ map length_of (take l.ledger-index l.ledgers)
