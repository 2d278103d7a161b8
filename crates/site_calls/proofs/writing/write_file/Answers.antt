use Rattle.site_calls.proofs.Events.{told_told}
use Rattle.site_calls.proofs.writing.write_file.Goals as goal

pub returns-clause-tells : goal.returns-clause-tells
returns-clause-tells g c = told_told _ _ _ c.find_or_make.ensures.tells c.write_on.ensures.tells
