-- What entries send to other partitions, by the states that they make.
use Rattle.std.specs.Prelude.{◌≡◌, ℕ, List, [], map, Some, None as nothing}
use Rattle.cell_packets.specs.Packets.{Packet, packet_of, all_packets, ends_of}
use Rattle.dura_model.specs.Partition.{Partition}
use Rattle.log_items.specs.declared.items.Packet.{Packet as OwnPacket}
use Rattle.cell_steps.specs.declared.mode.Mode.{Mode}
use Rattle.cell_steps.specs.declared.mode.Mode.TheVariants as modes

-- the messages to others that a state's streams have beyond where those of an earlier one ended
abbrev pub sent_between : (count : ℕ) → (before after : Partition) → List Packet
sent_between count before after = all_packets count after.number (ends_of (Some before.outboxes)) after.outboxes

-- all that its streams have
abbrev pub sent_by : (count : ℕ) → Partition → List Packet
sent_by count p = all_packets count p.number (ends_of nothing) p.outboxes

-- Where entries run ahead everywhere, what an entry sends goes out at once. Else nothing does.
abbrev pub SendsAtOnce : Mode → (count : ℕ) → (before after : Partition) → List OwnPacket → Type 0
SendsAtOnce modes.Global count before after packets = map packet_of packets ≡ sent_between count before after
SendsAtOnce modes.Local count before after packets = packets ≡ []
SendsAtOnce modes.None count before after packets = packets ≡ []

-- Where they don't, it goes out once they are settled.
abbrev pub SendsLater : Mode → (count : ℕ) → (before after : Partition) → List OwnPacket → Type 0
SendsLater modes.Global count before after packets = packets ≡ []
SendsLater modes.Local count before after packets = map packet_of packets ≡ sent_between count before after
SendsLater modes.None count before after packets = map packet_of packets ≡ sent_between count before after

-- What goes out again is all that the state has that packets go out of: the state ahead, or the settled one.
abbrev pub SendsAgain : Mode → (count : ℕ) → (base ahead : Partition) → List OwnPacket → Type 0
SendsAgain modes.Global count base ahead packets = map packet_of packets ≡ sent_by count ahead
SendsAgain modes.Local count base ahead packets = map packet_of packets ≡ sent_by count base
SendsAgain modes.None count base ahead packets = map packet_of packets ≡ sent_by count base
