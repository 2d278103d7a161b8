use Rattle.std.proofs.Common.{ap, ◌∙◌, is_gt}
use Rattle.shared_trees.specs.Places.{place_of, place_sought}
use Rattle.shared_trees.proofs.Orders.{greater_is_behind}
use Rattle.shared_trees.proofs.keys.Sought.is_behind.Goals as goal

pub returns : goal.returns
returns c = c.is_gt.ensures ∙ ap is_gt c.compare.ensures ∙ greater_is_behind (place_sought c.args.self.now) (place_of c.args.key.now)
