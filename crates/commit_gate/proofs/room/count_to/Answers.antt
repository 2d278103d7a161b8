use Rattle.std.proofs.Common.{◌≡◌, ℕ, ◌+◌, ◌∷◌, [], sym, ◌∙◌, ap, arith, take}
use Rattle.commit_gate.specs.Room.{count_to}
use Rattle.commit_gate.specs.Views.{sent_of, all_sent}
use Rattle.commit_gate.proofs.Rooms.{counted, passed, count_append}
use Rattle.commit_gate.proofs.Tested.{take_more}
use Rattle.commit_gate.proofs.room.count_to.Goals.{then-one-target, else-one-target}
use Rattle.commit_gate.proofs.room.count_to.Goals as goal

pub loop-one-preserved : goal.loop-one-preserved
loop-one-preserved c =
    let inv = c.loop-one.invariant in
    let list = c.args.sending.now in
    let one = c.one-item.result in
    let more : count_to c.args.target (all_sent (take (c.loop-one.one-index + 1) list)) ≡ c.loop-one.count + count_to c.args.target (sent_of one ∷ []) =
    ap (count_to c.args.target) (take_more sent_of list c.loop-one.one-index one (omega arith) c.one-item.is) ∙ count_append c.args.target (all_sent (take c.loop-one.one-index list)) (sent_of one ∷ []) ∙ ap (λ (n : ℕ). n + count_to c.args.target (sent_of one ∷ [])) (sym inv.count) in
    elim c.if-one-target.branch [
      | then-one-target w ↦ record { count = omega (arith, more, counted c.args.target (sent_of one) [] w.if-one-target.true, w.count-is); below = omega (arith, inv.below, w.count-is) }
      | else-one-target w ↦ record { count = omega (arith, more, passed c.args.target (sent_of one) [] w.if-one-target.false, w.count-is); below = omega (arith, inv.below, w.count-is) }
    ]
