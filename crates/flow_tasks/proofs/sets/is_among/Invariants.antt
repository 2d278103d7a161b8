use Rattle.std.proofs.Common.{◌≡◌, drop}
use Rattle.dura_value.specs.Messages.{is_among}
use Rattle.dura_value.specs.Views.{spot_of, spots_of}
use Rattle.flow_tasks.proofs.sets.is_among.Given as goal

-- it is among the rest where it is among all
abbrev pub invariant-loop-other : goal.invariant-loop-other
invariant-loop-other l = is_among (spot_of l.spot) (spots_of (drop l.other-index l.set)) ≡ is_among (spot_of l.spot) (spots_of l.set)
