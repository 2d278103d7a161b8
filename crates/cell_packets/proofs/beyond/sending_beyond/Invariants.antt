use Rattle.std.proofs.Common.{◌≡◌, Some}
use Rattle.commit_gate.specs.Views.{all_sent}
use Rattle.part_rows.specs.Views.{outboxes_of}
use Rattle.cell_packets.specs.Packets.{all_sent_from, ends_of}
use Rattle.cell_packets.proofs.beyond.sending_beyond.Given as goal

-- what is sent to the partitions so far
abbrev pub invariant-loop-target : goal.invariant-loop-target
invariant-loop-target l = all_sent l.sending.items ≡ all_sent_from l.target (ends_of (Some (outboxes_of l.fn.before))) (outboxes_of l.fn.after)
