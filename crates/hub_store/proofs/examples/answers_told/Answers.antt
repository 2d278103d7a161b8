use Rattle.hub_store.proofs.AnswersWait.{frame_told, not_other_frame, told_behind, not_told_before}
use Rattle.hub_store.proofs.examples.answers_told.Goals as goal

pub returns-clause-frame : goal.returns-clause-frame
returns-clause-frame c = frame_told

pub returns-clause-other_frame : goal.returns-clause-other_frame
returns-clause-other_frame c = not_other_frame

pub returns-clause-behind : goal.returns-clause-behind
returns-clause-behind c = told_behind 0

pub returns-clause-before : goal.returns-clause-before
returns-clause-before c = not_told_before
