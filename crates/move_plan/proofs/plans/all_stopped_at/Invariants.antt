-- The last of the first stops of the nodes so far.
use Rattle.std.proofs.Common.{◌≡◌, [], Some}
use Rattle.move_plan.specs.Plans.{all_stopped_at}
use Rattle.move_plan.proofs.plans.all_stopped_at.Given as goal

abbrev pub invariant-loop-node : goal.invariant-loop-node
invariant-loop-node l = all_stopped_at l.node [] l.stops ≡ Some l.last
