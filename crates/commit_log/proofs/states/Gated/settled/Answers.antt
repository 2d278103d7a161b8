use Rattle.commit_log.proofs.Steps.{settled}
use Rattle.commit_log.proofs.states.Gated.settled.Goals as goal

pub returns-clause-after : goal.returns-clause-after
returns-clause-after c h payloads payload changes gated = settled h payloads payload _ _ changes gated
