use Rattle.std.proofs.Common.{◌≡◌, Some, IfOk, ℕ, subst}
use Rattle.cell_packets.specs.Packets.{all_sent_from, ends_of}
use Rattle.commit_gate.specs.Views.{all_sent}
use Rattle.log_items.specs.Streams.{Outbox}
use Rattle.part_rows.specs.Views.{outboxes_of}
use Rattle.part_steps.specs.States.{state_of}
use Rattle.cell_steps.proofs.sending.sending_between.Goals as goal

pub returns : goal.returns
returns c =
    let before = (state_of c.args.before.now).outboxes in
    let after = (state_of c.args.after.now).outboxes in
    let made = c.sending_beyond.result in
    subst (λ (n : ℕ). IfOk made (λ sending. all_sent sending.items ≡ all_sent_from n (ends_of (Some before)) after)) c.partitions.ensures
    (subst (λ (boxes : ℕ → Outbox). IfOk made (λ sending. all_sent sending.items ≡ all_sent_from c.partitions.result (ends_of (Some boxes)) after)) c.outboxes.ensures.streams
    (subst (λ (boxes : ℕ → Outbox). IfOk made (λ sending. all_sent sending.items ≡ all_sent_from c.partitions.result (ends_of (Some (outboxes_of c.outboxes.result.now))) boxes)) c.outboxes-2.ensures.streams c.sending_beyond.ensures))
