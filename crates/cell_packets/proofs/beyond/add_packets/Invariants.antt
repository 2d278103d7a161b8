use Rattle.std.proofs.Common.{◌≡◌, ◌≤◌, ◌-◌, ◌++◌, length, map}
use Rattle.part_rows.specs.Views.{outboxes_of}
use Rattle.cell_packets.specs.Packets.{packet_of, packets_from}
use Rattle.cell_packets.proofs.beyond.add_packets.Given as goal

-- the packets so far, and what the stream has from here on
abbrev pub invariant-loop-posted : goal.invariant-loop-posted
invariant-loop-posted l =
    let box = outboxes_of l.fn.boxes l.fn.target in
    record {
      begun : box.first ≤ l.number;
      so_far : map packet_of l.packets.items ++ packets_from l.fn.source l.fn.target l.number box ≡ map packet_of l.fn.packets.items ++ packets_from l.fn.source l.fn.target l.fn.from box;
    }

abbrev pub decreases-loop-posted : goal.decreases-loop-posted
decreases-loop-posted l = let box = outboxes_of l.fn.boxes l.fn.target in length box.messages - (l.number - box.first)
