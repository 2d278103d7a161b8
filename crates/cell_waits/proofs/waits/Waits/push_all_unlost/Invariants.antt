use Rattle.std.proofs.Common.{◌≡◌, ◌++◌, map}
use Rattle.std.specs.List.{filter}
use Rattle.std.specs.VecDeque.{deque_len}
use Rattle.spec_tracker.specs.Marks.{floors_of}
use Rattle.cell_waits.specs.CutStreams.{stays}
use Rattle.cell_waits.specs.Indices.{IsIndexed}
use Rattle.cell_waits.specs.Waits.{wait_of, waits_of, lost_by, without_lost}
use Rattle.cell_waits.proofs.waits.Waits.push_all_unlost.Given as goal

-- what is kept and what is left of it to keep, without the streams that are cut, are all that is to be kept
abbrev pub invariant-waiting : goal.invariant-waiting
invariant-waiting l =
    IsIndexed l.self
    × (waits_of l.self ++ filter (stays l.cut.items) (without_lost (lost_by (floors_of l.marks)) (map wait_of l.queue.items))
    ≡ waits_of l.fn.self ++ without_lost (lost_by (floors_of l.marks)) (map wait_of l.fn.queue.items))

abbrev pub decreases-waiting : goal.decreases-waiting
decreases-waiting l = deque_len l.queue
