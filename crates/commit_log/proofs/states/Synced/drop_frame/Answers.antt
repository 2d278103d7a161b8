use Rattle.commit_log.proofs.Steps.{synced_untried}
use Rattle.commit_log.proofs.states.Synced.drop_frame.Goals as goal

pub returns-clause-after : goal.returns-clause-after
returns-clause-after g c h payloads payload synced = c.drop_frame.ensures.after h payloads (synced_untried h payloads payload _ _ _ synced)
