use Rattle.commit_log.proofs.Steps.{gated_broken, gated_synced_broken}
use Rattle.commit_log.proofs.states.Gated.failed.Goals as goal

pub returns-clause-after : goal.returns-clause-after
returns-clause-after c h payloads payload changes gated = (gated_broken h payloads payload _ _ changes gated, gated_synced_broken h payloads payload _ _ changes gated)
