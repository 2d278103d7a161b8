use Rattle.part_items.proofs.LogsNumbered.{entries_numbered}
use Rattle.part_items.proofs.kept.logs_are_numbered.Goals as goal

pub returns : goal.returns
returns c = entries_numbered
