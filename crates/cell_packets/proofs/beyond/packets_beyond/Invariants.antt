use Rattle.std.proofs.Common.{◌≡◌, map}
use Rattle.std.specs.Prelude.{option_map}
use Rattle.part_rows.specs.Views.{outboxes_of}
use Rattle.cell_packets.specs.Packets.{packet_of, all_packets, ends_of}
use Rattle.cell_packets.proofs.beyond.packets_beyond.Given as goal

-- the packets to the partitions so far
abbrev pub invariant-loop-target : goal.invariant-loop-target
invariant-loop-target l =
    map packet_of l.packets.items ≡ all_packets l.target l.fn.number (ends_of (option_map (λ boxes. outboxes_of boxes.now) l.fn.before)) (outboxes_of l.fn.after)
