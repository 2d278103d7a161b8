use Rattle.std.proofs.Common.{◌∙◌, ap, arith, List, ◌++◌}
use Rattle.spec_tracker.specs.declared.marks.Read.{Read}
use Rattle.commit_gate.specs.Marking.{reads_to}
use Rattle.commit_gate.proofs.ReadMarks.{one_more}
use Rattle.commit_gate.proofs.marks.reads_of.Goals as goal

pub loop-reader-preserved : goal.loop-reader-preserved
loop-reader-preserved c =
    let i = c.loop-reader.reader in
    c.in_ok-push_reads.ensures ∙ ap (λ (l : List Read). l ++ reads_to i c.index-ledgers-reader.result c.args.count) c.loop-reader.invariant
    ∙ one_more c.args.count i c.args.ledgers.now c.index-ledgers-reader.result (omega arith) c.index-ledgers-reader.is
