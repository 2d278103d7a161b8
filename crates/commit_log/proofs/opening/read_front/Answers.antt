use Rattle.commit_log.proofs.Fronts.{read_is}
use Rattle.commit_log.proofs.Headers.{header_front}
use Rattle.commit_log.proofs.opening.read_front.Goals as goal

pub returns-in-Ok-clause-says : goal.returns-in-Ok-clause-says
returns-in-Ok-clause-says g c tells = header_front c.args.partition _ _ _ (read_is _ 0 c.in-Ok.count _ _ (c.in-Ok.ensures.value tells)) c.parse_front.ensures.says
