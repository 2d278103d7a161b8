-- The packets on their way to partitions.
use Rattle.std.specs.Prelude.{ℕ, ◌+◌, ◌-◌, ◌^◌, min, nat_le, if◌then◌else◌, List, [], ◌++◌, length, drop, replicate, slice_get, slice_set, Option, Some, None, Result, Ok, Err}
use Rattle.log_items.specs.declared.items.Packet.{Packet}
use Rattle.part_transport.specs.Fates.{comes, fate_of}
use Rattle.part_transport.specs.declared.disturb.Disturb.{Disturb}
use Rattle.part_transport.specs.declared.disturb.Fate.{Fate}
use Rattle.part_transport.specs.declared.disturb.Fate.TheVariants as fates

-- what is on its way to one partition: the queue, oldest first; how many packets were put; and a packet that is held
pub record Lane (P : Type 0) : Type 0 where
  pub queue : List P
  pub puts : ℕ
  pub held : Option P

-- what is on its way to each partition, and what disturbs it
pub record Transit : Type 0 where
  pub disturb : Disturb
  pub lanes : List (Lane Packet)

-- so many packets have room in a queue
abbrev pub limit : ℕ
limit = 256

abbrev pub empty_lane : {P : Type 0} → Lane P
empty_lane = record { queue = []; puts = 0; held = None }

abbrev pub empty_lanes : (partitions : ℕ) → List (Lane Packet)
empty_lanes partitions = replicate partitions empty_lane

-- ---- a packet is put

-- the number of the next packet; numbers end at 2^64 - 1, which all later ones have
abbrev pub next_number : (puts : ℕ) → ℕ
next_number puts = min (puts + 1) (2 ^ 64 - 1)

-- the lane behind a put that has room
abbrev pub lane_after : {P : Type 0} → Disturb → P → Lane P → Lane P
lane_after disturb packet lane =
    let number = next_number lane.puts in
    let comes_now = comes disturb number lane.held packet in
    record { queue = lane.queue ++ comes_now.0; puts = number; held = comes_now.1 }

-- the lane behind a put, or the packet where what comes has no room
abbrev pub put_on : {P : Type 0} → Disturb → P → Lane P → Result (Lane P) P
put_on disturb packet lane = if nat_le (length (lane_after disturb packet lane).queue) limit then Ok (lane_after disturb packet lane) else Err packet

abbrev pub lane_set : {P : Type 0} → List (Lane P) → (place : ℕ) → Result (Lane P) P → Result (List (Lane P)) P
lane_set lanes place (Ok lane) = Ok (slice_set lanes place lane)
lane_set lanes place (Err packet) = Err packet

abbrev pub put_at : {P : Type 0} → Disturb → P → List (Lane P) → (place : ℕ) → Option (Lane P) → Result (List (Lane P)) P
put_at disturb packet lanes place None = Ok lanes
put_at disturb packet lanes place (Some lane) = lane_set lanes place (put_on disturb packet lane)

-- the lanes behind a put, or the packet where what comes has no room; one for no partition changes nothing
abbrev pub put_in : Disturb → Packet → List (Lane Packet) → Result (List (Lane Packet)) Packet
put_in disturb packet lanes = put_at disturb packet lanes packet.dst (slice_get lanes packet.dst)

abbrev pub fate_at : {P : Type 0} → Disturb → Option (Lane P) → Fate
fate_at disturb None = fates.Dropped
fate_at disturb (Some lane) = fate_of disturb (next_number lane.puts)

-- what happens to the next packet for a partition; one for no partition is dropped
abbrev pub next_fate : {P : Type 0} → Disturb → List (Lane P) → (place : ℕ) → Fate
next_fate disturb lanes place = fate_at disturb (slice_get lanes place)

-- ---- a packet is taken

abbrev pub take_at : {P : Type 0} → List (Lane P) → (place : ℕ) → Option (Lane P) → Option P × List (Lane P)
take_at lanes place None = (None, lanes)
take_at lanes place (Some lane) = (slice_get lane.queue 0, slice_set lanes place (record lane { queue = drop 1 lane.queue }))

-- the oldest packet for a partition, if there is one, and the lanes without it
abbrev pub take_in : {P : Type 0} → (place : ℕ) → List (Lane P) → Option P × List (Lane P)
take_in place lanes = take_at lanes place (slice_get lanes place)

abbrev pub queue_of : {P : Type 0} → Option (Lane P) → List P
queue_of None = []
queue_of (Some lane) = lane.queue

-- how many packets for a partition can be taken
abbrev pub waiting_in : {P : Type 0} → (place : ℕ) → List (Lane P) → ℕ
waiting_in place lanes = length (queue_of (slice_get lanes place))
