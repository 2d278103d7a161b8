use Rattle.commit_log.proofs.Steps.{bodied_broken, untried_synced}
use Rattle.commit_log.proofs.states.Bodied.failed.Goals as goal

pub returns-clause-after : goal.returns-clause-after
returns-clause-after c h payloads payload changes bodied =
    let untried = bodied_broken h payloads payload _ _ changes bodied in
    (untried, untried_synced h payloads _ changes untried)
