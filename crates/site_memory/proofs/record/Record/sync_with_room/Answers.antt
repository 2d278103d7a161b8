use Rattle.std.proofs.Common.{ap, ◌∙◌}
use Rattle.site_memory.specs.Record.{history_of}
use Rattle.site_memory.proofs.History.{history_push, inside_synced}
use Rattle.site_memory.proofs.record.Record.sync_with_room.Goals as goal

pub returns-clause-kept : goal.returns-clause-kept
returns-clause-kept c = ap history_of c.push_reserved.ensures.items ∙ history_push _ _

pub invariant_of-self-clause-inside : goal.invariant_of-self-clause-inside
invariant_of-self-clause-inside c = inside_synced _ c.args.file _ (ap history_of c.push_reserved.ensures.items ∙ history_push _ _) c.args.self.now.inside
