use Rattle.std.proofs.Common.{ℕ, ◌<◌, ◌∷◌, [], ◌∙◌, sym, ap, subst, length, List, arith}
use Rattle.std.specs.List.{All}
use Rattle.std.specs.Vec.Iter.{into_iter_items}
use Rattle.std.proofs.lemmas.List.{map-append, length-set}
use Rattle.std.proofs.lemmas.List.Elements.{All-head, All-tail}
use Rattle.log_items.specs.Streams.{Outbox, with_posted, with_sent}
use Rattle.commit_gate.specs.declared.ledger.Sending.{Sending}
use Rattle.commit_gate.specs.Keeping.{GoesInside}
use Rattle.commit_gate.specs.Room.{HaveRoom}
use Rattle.commit_gate.specs.Views.{sent_of, all_sent, box_of, whole_box, boxes_by}
use Rattle.commit_gate.proofs.Boxes.{box_kept, box_sent}
use Rattle.commit_gate.proofs.Going.{sent_append}
use Rattle.commit_gate.proofs.Rooms.{room_for, room_left}
use Rattle.commit_gate.proofs.keeping.send_all.Goals as goal

pub index_mut-requires : goal.index_mut-requires
index_mut-requires c =
    let P = GoesInside (length c.loop-one.boxes.items) in
    let all : All P (sent_of c.in-Some.one ∷ all_sent (into_iter_items c.next.new.self)) = subst (λ (l : List Sending). All P (all_sent l)) c.in-Some.ensures.steps.0 c.loop-one.invariant.5 in
    let low : c.in-Some.one.to < length c.loop-one.boxes.items = All-head P (sent_of c.in-Some.one) (all_sent (into_iter_items c.next.new.self)) all in
    omega (arith, low)

pub push-requires : goal.push-requires
push-requires c =
    let P = GoesInside (length c.loop-one.boxes.items) in
    let rest = all_sent (into_iter_items c.next.new.self) in
    let all : All P (sent_of c.in-Some.one ∷ rest) = subst (λ (l : List Sending). All P (all_sent l)) c.in-Some.ensures.steps.0 c.loop-one.invariant.5 in
    let room : HaveRoom c.loop-one.boxes.items (sent_of c.in-Some.one ∷ rest) = subst (λ (l : List Sending). HaveRoom c.loop-one.boxes.items (all_sent l)) c.in-Some.ensures.steps.0 c.loop-one.invariant.6 in
    let enough = room_for c.loop-one.boxes.items (sent_of c.in-Some.one) rest c.index_mut.result.now (All-head P (sent_of c.in-Some.one) rest all) c.index_mut.ensures.value room in
    record { room = omega (arith, enough) }

pub loop-one-preserved : goal.loop-one-preserved
loop-one-preserved c =
    let boxes = c.loop-one.boxes.items in
    let one = sent_of c.in-Some.one in
    let rest = all_sent (into_iter_items c.next.new.self) in
    let P = GoesInside (length boxes) in
    let inv = c.loop-one.invariant in
    let old = boxes_by whole_box c.args.boxes.now.items in
    let now = c.push.new.self in
    let all : All P (one ∷ rest) = subst (λ (l : List Sending). All P (all_sent l)) c.in-Some.ensures.steps.0 inv.5 in
    let room : HaveRoom boxes (one ∷ rest) = subst (λ (l : List Sending). HaveRoom boxes (all_sent l)) c.in-Some.ensures.steps.0 inv.6 in
    let low : one.to < length boxes = All-head P one rest all in (
      tt,
      tt,
      box_kept box_of boxes one.to now c.index_mut.result.now (c.push.ensures.settled ∙ ap box_of c.index_mut.ensures.value) ∙ inv.2,
      box_sent boxes one.to now c.index_mut.result.now one.posted low c.index_mut.ensures.value c.push.ensures.whole
          ∙ ap (λ (b : ℕ → Outbox). with_posted b one.to one.posted) inv.3
          ∙ sym (ap (with_sent old) (map-append sent_of c.loop-one.yielded (c.in-Some.one ∷ [])) ∙ sent_append old (all_sent c.loop-one.yielded) (one ∷ [])),
      length-set boxes one.to now ∙ inv.4,
      subst (λ (n : ℕ). All (GoesInside n) rest) (sym (length-set boxes one.to now)) (All-tail P one rest all),
      room_left boxes one rest c.index_mut.result.now now low c.index_mut.ensures.value c.push.ensures.len c.push.ensures.capacity room,
    )
