use Rattle.site_calls.proofs.Events.{told_told, honest_more}
use Rattle.site_calls.proofs.syncing.sync_file.Goals as goal

pub returns-in-Ok-true-clause-tells : goal.returns-in-Ok-true-clause-tells
returns-in-Ok-true-clause-tells g c = told_told _ _ _ c.find_file.ensures.tells c.make_safe.ensures.tells

pub returns-in-Ok-false-clause-tells : goal.returns-in-Ok-false-clause-tells
returns-in-Ok-false-clause-tells g c unseen honest = c.find_file.ensures.tells unseen (honest_more unseen c.pass_over.ensures honest)
