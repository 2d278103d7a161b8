use Rattle.std.proofs.Common.{◌≡◌, Some, map, IfOk, ℕ, subst}
use Rattle.cell_packets.specs.Packets.{packet_of, all_packets, ends_of}
use Rattle.log_items.specs.Streams.{Outbox}
use Rattle.part_rows.specs.Views.{outboxes_of}
use Rattle.part_steps.specs.States.{state_of}
use Rattle.cell_steps.proofs.sending.packets_between.Goals as goal

pub returns : goal.returns
returns c =
    let before = (state_of c.args.before.now).outboxes in
    let after = state_of c.args.after.now in
    let made = c.packets_beyond.result in
    subst (λ (n : ℕ). IfOk made (λ packets. map packet_of packets.items ≡ all_packets n after.number (ends_of (Some before)) after.outboxes)) c.partitions.ensures
    (subst (λ (n : ℕ). IfOk made (λ packets. map packet_of packets.items ≡ all_packets c.partitions.result n (ends_of (Some before)) after.outboxes)) c.number.ensures
    (subst (λ (boxes : ℕ → Outbox). IfOk made (λ packets. map packet_of packets.items ≡ all_packets c.partitions.result c.number.result (ends_of (Some boxes)) after.outboxes)) c.outboxes.ensures.streams
    (subst (λ (boxes : ℕ → Outbox). IfOk made (λ packets. map packet_of packets.items ≡ all_packets c.partitions.result c.number.result (ends_of (Some (outboxes_of c.outboxes.result.now))) boxes)) c.outboxes-2.ensures.streams c.packets_beyond.ensures)))
