use Rattle.std.proofs.Common.{◌≡◌, ℕ, ◌<◌, ◌+◌, ◌≤◌, length, Some}
use Rattle.std.specs.List.{slice_get}
use Rattle.std.specs.VecDeque.{deque_len, deque_capacity}
use Rattle.commit_gate.specs.declared.ledger.Stream.{Stream}
use Rattle.commit_gate.specs.Room.{count_to}
use Rattle.commit_gate.specs.Views.{all_sent, box_of, whole_box, boxes_by}
use Rattle.commit_gate.proofs.room.make_room_in.Given as goal

abbrev pub invariant-loop-target : goal.invariant-loop-target
invariant-loop-target l = record {
  settled : boxes_by box_of l.boxes.items ≡ boxes_by box_of l.initial.boxes.items;
  whole : boxes_by whole_box l.boxes.items ≡ boxes_by whole_box l.initial.boxes.items;
  count : length l.boxes.items ≡ length l.initial.boxes.items;
  room : (target : ℕ) (stream : Stream) → target < l.target → slice_get l.boxes.items target ≡ Some stream → deque_len stream.messages + count_to target (all_sent l.sending) ≤ deque_capacity stream.messages;
}
