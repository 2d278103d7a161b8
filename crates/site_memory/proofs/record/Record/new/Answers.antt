use Rattle.std.proofs.Common.{ap, ◌∙◌}
use Rattle.site_memory.specs.Record.{history_of}
use Rattle.site_memory.proofs.History.{history_empty, inside_empty}
use Rattle.site_memory.proofs.record.Record.new.Goals as goal

pub invariant_of-result-clause-inside : goal.invariant_of-result-clause-inside
invariant_of-result-clause-inside c = inside_empty _ (ap history_of c.in_ok-kept.ensures.items ∙ history_empty)

pub returns-clause-history : goal.returns-clause-history
returns-clause-history c = ap history_of c.in_ok-kept.ensures.items ∙ history_empty
