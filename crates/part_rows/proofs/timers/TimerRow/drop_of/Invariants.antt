use Rattle.std.proofs.Common.{◌-◌, ◌≤◌}
use Rattle.dura_value.specs.Views.{id_of}
use Rattle.shared_maps.proofs.Clears.{AreGone, StaysApart}
use Rattle.part_rows.specs.Timers.{timers_in, InOrder}
use Rattle.part_rows.proofs.timers.TimerRow.drop_of.Given as goal

-- the tasks of the instance that were passed have no timer, and all else is as it was
abbrev pub invariant-loop-task : goal.invariant-loop-task
invariant-loop-task l = record {
  within : l.from ≤ 4294967296;
  order : InOrder l.self;
  apart : StaysApart (id_of l.id) (timers_in l.initial.self) (timers_in l.self);
  gone : AreGone (id_of l.id) (timers_in l.self) l.from;
}

abbrev pub decreases-loop-task : goal.decreases-loop-task
decreases-loop-task l = 4294967296 - l.from
