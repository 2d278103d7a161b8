use Rattle.std.specs.VecDeque.{deque_len, deque_capacity}
use Rattle.std.proofs.Common.{ℕ, ◌≤◌, subst, ◌+◌, ◌∙◌, ap, arith}
use Rattle.std.proofs.lemmas.List.{length-set}
use Rattle.std.proofs.lemmas.Option.{slice_get_within}
use Rattle.commit_gate.specs.Views.{all_sent, box_of, whole_box}
use Rattle.commit_gate.proofs.Boxes.{box_kept}
use Rattle.commit_gate.proofs.Rooms.{room_more, ok_here}
use Rattle.commit_gate.proofs.room.make_room_in.Goals as goal

pub returns-then-is_err-clause-settled : goal.returns-then-is_err-clause-settled
returns-then-is_err-clause-settled c =
    box_kept box_of c.loop-target.boxes.items c.loop-target.target c.make_room.new.self c.index_mut.result.now (c.make_room.ensures.settled ∙ ap box_of c.index_mut.ensures.value) ∙ c.loop-target.invariant.settled

pub returns-then-is_err-clause-whole : goal.returns-then-is_err-clause-whole
returns-then-is_err-clause-whole c =
    box_kept whole_box c.loop-target.boxes.items c.loop-target.target c.make_room.new.self c.index_mut.result.now (c.make_room.ensures.whole ∙ ap whole_box c.index_mut.ensures.value) ∙ c.loop-target.invariant.whole

pub loop-target-preserved : goal.loop-target-preserved
loop-target-preserved c =
    let inv = c.loop-target.invariant in
    let boxes = c.loop-target.boxes.items in
    let i = c.loop-target.target in
    let now = c.make_room.new.self in
    record {
      settled = box_kept box_of boxes i now c.index_mut.result.now (c.make_room.ensures.settled ∙ ap box_of c.index_mut.ensures.value) ∙ inv.settled;
      whole = box_kept whole_box boxes i now c.index_mut.result.now (c.make_room.ensures.whole ∙ ap whole_box c.index_mut.ensures.value) ∙ inv.whole;
      count = length-set boxes i now ∙ inv.count;
      room = room_more boxes i now (all_sent c.args.sending.now) (omega (arith, inv.count)) (subst (λ (n : ℕ). deque_len now.messages + n ≤ deque_capacity now.messages) c.count_to-count.ensures (ok_here c.make_room.result _ c.if-is_err.false c.is_err.ensures.value c.make_room.ensures.room)) inv.room;
    }

pub returns-clause-room : goal.returns-clause-room
returns-clause-room c target stream at =
    let within = slice_get_within c.loop-target.boxes.items target stream at in
    c.loop-target.invariant.room target stream (omega (arith, within, c.loop-target.invariant.count)) at
