-- What was read fits the run.
use Rattle.serde_json.specs.View.{view}
use Rattle.move_plan.proofs.Ranges.{fits}
use Rattle.move_plan.proofs.plans.read_plan.Goals as goal

pub returns-clause-fits : goal.returns-clause-fits
returns-clause-fits c = fits c.args.partitions c.args.nodes (view c.in_ok-value.value) c.plan_from.result c.plan_from.ensures
