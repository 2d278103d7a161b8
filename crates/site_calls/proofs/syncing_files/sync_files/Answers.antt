use Rattle.site_calls.proofs.Events.{told_told}
use Rattle.site_calls.proofs.syncing_files.sync_files.Goals as goal

pub returns-in-Ok-true-clause-tells : goal.returns-in-Ok-true-clause-tells
returns-in-Ok-true-clause-tells g c = told_told _ _ _ c.are_there.ensures.tells c.sync_at_once.ensures.tells

pub returns-in-Ok-false-clause-tells : goal.returns-in-Ok-false-clause-tells
returns-in-Ok-false-clause-tells g c = told_told _ _ _ c.are_there.ensures.tells c.sync_in_turn-in-Ok-false.ensures.tells
