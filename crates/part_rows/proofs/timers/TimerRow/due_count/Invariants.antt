use Rattle.std.proofs.Common.{option_map}
use Rattle.dura_value.specs.Views.{id_of}
use Rattle.shared_maps.proofs.Passing.{count_at, is_past}
use Rattle.part_rows.specs.Timers.{timers_in}
use Rattle.part_rows.proofs.Counting.{place_at, AreCounted}
use Rattle.part_rows.proofs.timers.TimerRow.due_count.Given as goal

-- the timers up to the last one are counted
abbrev pub invariant-loop-due : goal.invariant-loop-due
invariant-loop-due l = AreCounted (timers_in l.self) l.now (option_map (λ at. (at.0, id_of at.1.now, at.2)) l.last) l.count

abbrev pub decreases-loop-due : goal.decreases-loop-due
decreases-loop-due l = count_at (is_past (option_map place_at (option_map (λ at. (at.0, id_of at.1.now, at.2)) l.last))) l.self.order
