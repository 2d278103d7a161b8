-- The messages of a partition's streams, as they go to other partitions.
use Rattle.std.specs.Prelude.{ℕ, ◌+◌, ◌-◌, List, length, map, drop, Option, Some, None}
use Rattle.std.specs.List.{flat_map, enumerate_from, range_with_len}
use Rattle.dura_value.specs.Items.{Posted}
use Rattle.dura_value.specs.Views.{message_of}
use Rattle.log_items.specs.Streams.{Outbox, Sent}
use Rattle.log_items.specs.declared.items.Packet as declared

-- a message of a stream on its way: the partition that sends it, the one that it goes to, and its number in the stream
pub record Packet : Type 0 where
  pub source : ℕ
  pub target : ℕ
  pub number : ℕ
  pub posted : Posted

-- what a packet is; the entry that sent it is one of the partition that sends it
abbrev pub packet_of : declared.Packet → Packet
packet_of packet = record {
  source = packet.src;
  target = packet.dst;
  number = packet.seq;
  posted = record {
    entry = record { partition = packet.src; incarnation = packet.inc; position = packet.pos };
    message = message_of packet.message;
  };
}

-- the number behind a stream's last message
abbrev pub end_of : Outbox → ℕ
end_of box = box.first + length box.messages

-- where streams end, by the partition that they go to; where there are none each ends at its beginning
abbrev pub ends_of : Option (ℕ → Outbox) → (target : ℕ) → ℕ
ends_of None target = 0
ends_of (Some boxes) target = end_of (boxes target)

-- a message with its number, on its way
abbrev pub packet_with : (source target : ℕ) → ℕ × Posted → Packet
packet_with source target one = record { source = source; target = target; number = one.0; posted = one.1 }

-- what is left of a stream, each message with its number
abbrev pub packets_in : (source target : ℕ) → Outbox → List Packet
packets_in source target box = map (packet_with source target) (enumerate_from box.first box.messages)

-- of that the messages from a number on; from a number before its first one all
abbrev pub packets_from : (source target from : ℕ) → Outbox → List Packet
packets_from source target from box = drop (from - box.first) (packets_in source target box)

-- of the streams to the first so many partitions, in their order, what lies from these numbers on
abbrev pub all_packets : (count source : ℕ) → (from : ℕ → ℕ) → (ℕ → Outbox) → List Packet
all_packets count source from boxes = flat_map (λ target. packets_from source target (from target) (boxes target)) (range_with_len 0 count)

-- ---- the same as what a frame sends

-- a message to a partition
abbrev pub sent_to : (target : ℕ) → Posted → Sent
sent_to target posted = record { to = target; posted = posted }

-- what is left of a stream
abbrev pub sent_in : (target : ℕ) → Outbox → List Sent
sent_in target box = map (sent_to target) box.messages

-- of that the messages from a number on
abbrev pub sent_from : (target from : ℕ) → Outbox → List Sent
sent_from target from box = drop (from - box.first) (sent_in target box)

-- of the streams to the first so many partitions, in their order, what lies from these numbers on
abbrev pub all_sent_from : (count : ℕ) → (from : ℕ → ℕ) → (ℕ → Outbox) → List Sent
all_sent_from count from boxes = flat_map (λ target. sent_from target (from target) (boxes target)) (range_with_len 0 count)
