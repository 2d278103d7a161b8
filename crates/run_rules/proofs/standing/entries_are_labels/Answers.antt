-- Entries lead where their labels do.
use Rattle.run_rules.proofs.EntriesLead.{entries_lead}
use Rattle.run_rules.proofs.standing.entries_are_labels.Goals as goal

pub returns : goal.returns
returns c = entries_lead
