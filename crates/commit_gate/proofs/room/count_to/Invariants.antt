use Rattle.std.proofs.Common.{◌≡◌, ◌≤◌, take}
use Rattle.commit_gate.specs.Room.{count_to}
use Rattle.commit_gate.specs.Views.{all_sent}
use Rattle.commit_gate.proofs.room.count_to.Given as goal

abbrev pub invariant-loop-one : goal.invariant-loop-one
invariant-loop-one l = record {
  count : l.count ≡ count_to l.target (all_sent (take l.one-index l.sending));
  below : l.count ≤ l.one-index;
}
