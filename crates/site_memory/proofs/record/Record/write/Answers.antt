use Rattle.std.proofs.Common.{arith, length}
use Rattle.site_memory.proofs.History.{inside_wrote}
use Rattle.site_memory.proofs.record.Record.write.Goals as goal

pub invariant_of-self-clause-inside : goal.invariant_of-self-clause-inside
invariant_of-self-clause-inside c =
    inside_wrote _ c.args.file c.args.at (length c.args.bytes.now) c.args.bytes.now _ c.keep_write.ensures.history c.args.self.now.inside c.requires (omega arith)
