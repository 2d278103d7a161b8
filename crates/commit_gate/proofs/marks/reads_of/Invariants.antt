use Rattle.std.proofs.Common.{◌≡◌, take}
use Rattle.commit_gate.specs.Marking.{all_reads}
use Rattle.commit_gate.proofs.marks.reads_of.Given as goal

abbrev pub invariant-loop-reader : goal.invariant-loop-reader
invariant-loop-reader l = l.reads.items ≡ all_reads l.count 0 (take l.reader l.ledgers)
