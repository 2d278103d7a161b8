use Rattle.site_memory.proofs.History.{inside_said}
use Rattle.site_memory.proofs.record.Record.say.Goals as goal

pub invariant_of-self-clause-inside : goal.invariant_of-self-clause-inside
invariant_of-self-clause-inside c = inside_said _ c.args.line.now _ c.keep_line.ensures.history c.args.self.now.inside
