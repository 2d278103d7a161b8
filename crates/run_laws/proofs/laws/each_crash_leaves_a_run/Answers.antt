use Rattle.hub_store.specs.Trail.{settled_at}
use Rattle.site_model.specs.History.{back_to}
use Rattle.run_laws.proofs.Images.{moment_stands}
use Rattle.run_laws.proofs.laws.each_crash_leaves_a_run.Goals as goal

pub returns : goal.returns
returns c o rules latest digest now trail begins every moment low high files image =
    moment_stands o rules latest digest begins (back_to moment now) (settled_at moment trail) files (every moment low high) image
