use Rattle.std.proofs.Common.{◌∙◌}
use Rattle.dura_value.proofs.SameViews.{value_eq_is}
use Rattle.flow_eval.proofs.comparisons.are_equal.Goals as goal

pub returns : goal.returns
returns c = c.eq.ensures ∙ value_eq_is c.args.first.now c.args.second.now
