use Rattle.std.proofs.Common.{◌≤◌, ◌-◌}
use Rattle.dura_value.specs.Views.{id_of}
use Rattle.shared_maps.specs.Maps.{by_task}
use Rattle.shared_maps.proofs.Clears.{StaysApart, AreGone}
use Rattle.shared_maps.proofs.task_map.TaskMap.clear.Given as goal

-- the numbers of the id that were passed are gone, and all else is as it was
abbrev pub invariant-loop-number : goal.invariant-loop-number
invariant-loop-number g l = record {
  within : l.from ≤ 4294967296;
  apart : StaysApart (id_of l.id) (by_task l.fn.self) (by_task l.left);
  gone : AreGone (id_of l.id) (by_task l.left) l.from;
}

abbrev pub decreases-loop-number : goal.decreases-loop-number
decreases-loop-number g l = 4294967296 - l.from
