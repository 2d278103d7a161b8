use Rattle.part_items.proofs.OneEntryKept.{frames_kept}
use Rattle.part_items.proofs.kept_examples.logs_of_one_entry.Goals as goal

pub returns : goal.returns
returns c = frames_kept
