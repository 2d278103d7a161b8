use Rattle.commit_log.proofs.Steps.{bodied_broken}
use Rattle.commit_log.proofs.states.Bodied.drop_frame.Goals as goal

pub returns-clause-after : goal.returns-clause-after
returns-clause-after g c h payloads payload bodied = c.drop_frame.ensures.after h payloads (bodied_broken h payloads payload _ _ _ bodied)
