use Rattle.site_calls.proofs.Events.{told_told}
use Rattle.site_calls.proofs.reading.length_of.Goals as goal

pub returns-then-branch-clause-tells : goal.returns-then-branch-clause-tells
returns-then-branch-clause-tells g c = told_told _ _ _ c.find_file.ensures.tells c.measure_file.ensures.tells
