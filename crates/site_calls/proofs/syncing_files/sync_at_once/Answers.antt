use Rattle.site_calls.proofs.Events.{told_told}
use Rattle.site_calls.proofs.syncing_files.sync_at_once.Goals as goal

pub returns-clause-tells : goal.returns-clause-tells
returns-clause-tells g c = told_told _ _ _ c.secure_names.ensures.tells c.flush_all.ensures.tells
