use Rattle.std.proofs.Common.{refl}
use Rattle.commit_log.specs.Segment.{header_at, frame_at}
use Rattle.part_items.specs.Kept.{entries_from}
use Rattle.part_items.proofs.kept_examples.empty_logs.Goals as goal

pub returns-clause-good : goal.returns-clause-good
unfolding header_at entries_from
returns-clause-good c = refl

pub returns-clause-damaged : goal.returns-clause-damaged
unfolding header_at frame_at entries_from
returns-clause-damaged c = refl

pub returns-clause-other : goal.returns-clause-other
unfolding header_at entries_from
returns-clause-other c = refl
