use Rattle.commit_log.proofs.Steps.{bodied_synced, bodied_synced_images}
use Rattle.commit_log.proofs.states.Bodied.synced.Goals as goal

pub returns-clause-during : goal.returns-clause-during
returns-clause-during c h payloads payload changes bodied = bodied_synced_images h payloads payload _ _ changes bodied

pub returns-clause-after : goal.returns-clause-after
returns-clause-after c h payloads payload changes bodied = bodied_synced h payloads payload _ _ changes bodied
