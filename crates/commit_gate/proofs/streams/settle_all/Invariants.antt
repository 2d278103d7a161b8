use Rattle.std.proofs.Common.{◌≡◌, ℕ, ◌<◌, get_or, length}
use Rattle.commit_gate.specs.declared.ledger.Stream.{Stream}
use Rattle.commit_gate.specs.Views.{box_of, whole_box, boxes_by}
use Rattle.commit_gate.proofs.streams.settle_all.Given as goal

abbrev pub invariant-loop-index : goal.invariant-loop-index
invariant-loop-index l = record {
  shown : boxes_by whole_box l.boxes.items ≡ boxes_by whole_box l.initial.boxes.items;
  below : (k : ℕ) → k < l.index → (d : Stream) → box_of (get_or l.boxes.items k d) ≡ whole_box (get_or l.boxes.items k d);
  count : length l.boxes.items ≡ length l.initial.boxes.items;
}
