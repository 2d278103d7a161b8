-- What an entity names as its holder has it, or gives it back.
use Rattle.run_laws.proofs.Ordered.{has_cause}
use Rattle.run_laws.proofs.sections.no_lock_left.Goals as goal

pub returns : goal.returns
returns c = has_cause
