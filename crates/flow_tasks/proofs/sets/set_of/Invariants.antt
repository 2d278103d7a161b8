use Rattle.std.proofs.Common.{◌≡◌, length}
use Rattle.dura_value.specs.Messages.{set_of}
use Rattle.dura_value.specs.Views.{spots_of}
use Rattle.flow_tasks.proofs.Inserts.{all_inserted}
use Rattle.flow_tasks.proofs.sets.set_of.Given as goal

-- the first ones are still to be put into the set
abbrev pub invariant-loop-spot : goal.invariant-loop-spot
invariant-loop-spot l = all_inserted (spots_of l.spots.items) (spots_of l.set.items) ≡ set_of (spots_of l.fn.spots.items)

abbrev pub decreases-loop-spot : goal.decreases-loop-spot
decreases-loop-spot l = length l.spots.items
