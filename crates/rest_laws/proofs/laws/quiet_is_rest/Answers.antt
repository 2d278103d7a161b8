use Rattle.rest_laws.proofs.Stirred.{each_quiet}
use Rattle.rest_laws.proofs.laws.quiet_is_rest.Goals as goal

pub returns-clause-quiet : goal.returns-clause-quiet
returns-clause-quiet c = each_quiet
