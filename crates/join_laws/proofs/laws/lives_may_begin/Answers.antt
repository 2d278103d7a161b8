use Rattle.join_laws.proofs.Starting.{just_kept, nothing_kept}
use Rattle.join_laws.proofs.laws.lives_may_begin.Goals as goal

pub returns-clause-kept : goal.returns-clause-kept
returns-clause-kept c = just_kept

pub returns-clause-new : goal.returns-clause-new
returns-clause-new c = nothing_kept
