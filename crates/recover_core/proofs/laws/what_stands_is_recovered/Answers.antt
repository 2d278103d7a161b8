use Rattle.recover_core.proofs.Standing.{never_refused, shows_run}
use Rattle.recover_core.proofs.laws.what_stands_is_recovered.Goals as goal

pub returns-clause-never_refused : goal.returns-clause-never_refused
returns-clause-never_refused c = λ flows count digest files run result stands opens. never_refused flows count digest files run stands result opens

pub returns-clause-shows_run : goal.returns-clause-shows_run
returns-clause-shows_run c = λ flows count digest files run result stands opens. shows_run flows count digest files run stands result opens
