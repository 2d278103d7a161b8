use Rattle.std.proofs.Common.{ℕ, Some, ap, sym}
use Rattle.commit_gate.specs.Views.{all_sent}
use Rattle.part_rows.specs.Views.{outboxes_of}
use Rattle.cell_packets.specs.Packets.{sent_from, ends_of}
use Rattle.cell_packets.proofs.Partitions.{next_joins}
use Rattle.cell_packets.proofs.beyond.sending_beyond.Goals as goal

pub loop-target-preserved : goal.loop-target-preserved
loop-target-preserved c =
    let boxes = outboxes_of c.args.after.now in
    let ends = ends_of (Some (outboxes_of c.args.before.now)) in
    let target = c.loop-target.target in
    next_joins (λ (t : ℕ). sent_from t (ends t) (boxes t)) target c.in_ok-from.from (λ (n : ℕ). sent_from target n (boxes target))
    (all_sent c.loop-target.sending.items) (all_sent c.add_sending.new.sending.items)
    (ap (λ (n : ℕ). sent_from target n (boxes target)) (sym c.in_ok-from.ensures)) c.in_ok-add_sending.ensures c.loop-target.invariant
