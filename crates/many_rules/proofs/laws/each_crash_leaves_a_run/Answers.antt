use Rattle.hub_store.specs.Trail.{settled_at}
use Rattle.site_model.specs.History.{back_to}
use Rattle.many_rules.proofs.Moments.{moment_stands}
use Rattle.many_rules.proofs.laws.each_crash_leaves_a_run.Goals as goal

pub returns : goal.returns
returns c o rules latest digest now trail begins every moment low high files image =
    moment_stands rules latest o digest begins (back_to moment now) (settled_at moment trail) files (every moment low high) image
