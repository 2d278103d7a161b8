use Rattle.std.proofs.Common.{◌≡◌, ◌++◌}
use Rattle.commit_gate.specs.Marking.{reads_to}
use Rattle.commit_gate.proofs.marks.push_reads.Given as goal

abbrev pub invariant-loop-source : goal.invariant-loop-source
invariant-loop-source l = l.reads.items ≡ l.initial.reads.items ++ reads_to l.reader l.ledger l.source
