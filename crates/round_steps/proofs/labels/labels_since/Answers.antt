use Rattle.std.proofs.Common.{refl}
use Rattle.round_steps.proofs.Counts.{since}
use Rattle.round_steps.proofs.labels.labels_since.Goals as goal

pub returns : goal.returns
returns c = since c.args.trail.now _ c.args.seen c.min-from.result c.in_ok-labels.labels refl c.min-from.ensures c.in_ok-labels.ensures
