use Rattle.site_model.proofs.Syncing.{syncing_shrinks}
use Rattle.site_model.proofs.laws.syncs_leave_no_new_image.Goals as goal

pub returns : goal.returns
returns c = syncing_shrinks
