use Rattle.std.proofs.Common.{◌≡◌, length}
use Rattle.std.specs.List.{All}
use Rattle.std.specs.Vec.Iter.{into_iter_items}
use Rattle.commit_gate.specs.Keeping.{GoesInside}
use Rattle.commit_gate.specs.Room.{HaveRoom}
use Rattle.commit_gate.specs.Views.{all_sent, box_of, whole_box, boxes_by}
use Rattle.commit_gate.proofs.keeping.send_all.Given as goal
use Rattle.log_items.specs.Streams.{with_sent}

abbrev pub invariant-loop-one : goal.invariant-loop-one
invariant-loop-one l =
    (goal.iterator-loop-one).can_next l.one-iterator × (goal.iterator-loop-one).is_finite l.one-iterator
    × (boxes_by box_of l.boxes.items ≡ boxes_by box_of l.initial.boxes.items)
    × (boxes_by whole_box l.boxes.items ≡ with_sent (boxes_by whole_box l.initial.boxes.items) (all_sent l.yielded))
    × (length l.boxes.items ≡ length l.initial.boxes.items)
    × All (GoesInside (length l.boxes.items)) (all_sent (into_iter_items l.one-iterator))
    × HaveRoom l.boxes.items (all_sent (into_iter_items l.one-iterator))
