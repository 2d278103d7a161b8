use Rattle.std.proofs.Common.{◌≡◌, ◌≤◌, ◌-◌, ◌++◌, length}
use Rattle.commit_gate.specs.Views.{all_sent}
use Rattle.part_rows.specs.Views.{outboxes_of}
use Rattle.cell_packets.specs.Packets.{sent_from}
use Rattle.cell_packets.proofs.beyond.add_sending.Given as goal

-- what is sent so far, and what the stream has from here on
abbrev pub invariant-loop-posted : goal.invariant-loop-posted
invariant-loop-posted l =
    let box = outboxes_of l.fn.boxes l.fn.target in
    record {
      begun : box.first ≤ l.number;
      so_far : all_sent l.sending.items ++ sent_from l.fn.target l.number box ≡ all_sent l.fn.sending.items ++ sent_from l.fn.target l.fn.from box;
    }

abbrev pub decreases-loop-posted : goal.decreases-loop-posted
decreases-loop-posted l = let box = outboxes_of l.fn.boxes l.fn.target in length box.messages - (l.number - box.first)
