use Rattle.commit_log.proofs.Whole.{whole_ends, whole_breaks}
use Rattle.commit_log.proofs.laws.the_frames_are_the_whole.Goals as goal

pub returns-clause-ends : goal.returns-clause-ends
returns-clause-ends c = whole_ends

pub returns-clause-breaks : goal.returns-clause-breaks
returns-clause-breaks c = whole_breaks
