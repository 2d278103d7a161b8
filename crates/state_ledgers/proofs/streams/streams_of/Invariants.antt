use Rattle.std.proofs.Common.{◌≡◌, map}
use Rattle.std.specs.List.{range_with_len}
use Rattle.commit_gate.specs.Views.{box_of, whole_box}
use Rattle.part_steps.specs.States.{state_of}
use Rattle.state_ledgers.proofs.streams.streams_of.Given as goal

abbrev pub invariant-loop-target : goal.invariant-loop-target
invariant-loop-target l = record {
  settled : map box_of l.streams.items ≡ map (state_of l.fn.state).outboxes (range_with_len 0 l.target);
  whole : map whole_box l.streams.items ≡ map box_of l.streams.items;
}
