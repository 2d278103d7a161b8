use Rattle.commit_log.proofs.Steps.{gated_broken}
use Rattle.commit_log.proofs.states.Gated.reopen.Goals as goal

pub returns-clause-after : goal.returns-clause-after
returns-clause-after g c tells h payloads payload gated = c.reopen.ensures.after tells h payloads payload (gated_broken h payloads payload _ _ _ gated)
