use Rattle.std.proofs.Common.{ℕ, ap, sym, map}
use Rattle.std.specs.Prelude.{option_map}
use Rattle.part_rows.specs.Views.{outboxes_of}
use Rattle.cell_packets.specs.Packets.{packet_of, packets_from, ends_of}
use Rattle.cell_packets.proofs.Partitions.{next_joins}
use Rattle.cell_packets.proofs.beyond.packets_beyond.Goals as goal

pub loop-target-preserved : goal.loop-target-preserved
loop-target-preserved c =
    let boxes = outboxes_of c.args.after.now in
    let ends = ends_of (option_map (λ boxes. outboxes_of boxes.now) c.args.before) in
    let target = c.loop-target.target in
    next_joins (λ (t : ℕ). packets_from c.args.number t (ends t) (boxes t)) target c.in_ok-from.from (λ (n : ℕ). packets_from c.args.number target n (boxes target))
    (map packet_of c.loop-target.packets.items) (map packet_of c.add_packets.new.packets.items)
    (ap (λ (n : ℕ). packets_from c.args.number target n (boxes target)) (sym c.in_ok-from.ensures)) c.in_ok-add_packets.ensures c.loop-target.invariant
