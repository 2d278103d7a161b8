use Rattle.std.proofs.Common.{◌≡◌, ◌++◌, drop, take}
use Rattle.dura_value.specs.Messages.{inserted}
use Rattle.dura_value.specs.Views.{spot_of, spots_of}
use Rattle.flow_tasks.proofs.sets.place_in.Given as goal

-- it goes behind the entities so far
abbrev pub invariant-loop-place : goal.invariant-loop-place
invariant-loop-place l = spots_of (take l.place l.set) ++ inserted (spot_of l.spot) (spots_of (drop l.place l.set)) ≡ inserted (spot_of l.spot) (spots_of l.set)
