use Rattle.std.proofs.Common.{◌≡◌, ℕ, ◌<◌, get_or, length}
use Rattle.commit_gate.specs.declared.ledger.Stream.{Stream}
use Rattle.commit_gate.specs.Views.{box_of, whole_box, boxes_by}
use Rattle.commit_gate.proofs.streams.drop_all.Given as goal

abbrev pub invariant-loop-index : goal.invariant-loop-index
invariant-loop-index l = record {
  shown : boxes_by box_of l.boxes.items ≡ boxes_by box_of l.initial.boxes.items;
  below : (k : ℕ) → k < l.index → (d : Stream) → whole_box (get_or l.boxes.items k d) ≡ box_of (get_or l.boxes.items k d);
  count : length l.boxes.items ≡ length l.initial.boxes.items;
}
