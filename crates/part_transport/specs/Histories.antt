-- What was put for partitions, and what was taken.
use Rattle.std.specs.Prelude.{◌≡◌, ◌<◌, ℕ, ◌==◌, if◌then◌else◌, List, [], ◌∷◌, ◌++◌, slice_get, Option, Some, None, Result, Ok, Err, Contains}
use Rattle.std.specs.Option.{option_to_list}
use Rattle.log_items.specs.declared.items.Packet.{Packet}
use Rattle.part_transport.specs.Lanes.{Lane, put_in, take_in, empty_lanes}
use Rattle.part_transport.specs.declared.disturb.Disturb.{Disturb}

-- a packet is put, or one for a partition is taken; a put that fails for want of memory is none of these, since it changes nothing
pub data Event : Type 0 where
  put : Packet → Event
  take : (partition : ℕ) → Event

abbrev pub lanes_or : {P : Type 0} → List (Lane P) → Result (List (Lane P)) P → List (Lane P)
lanes_or lanes (Ok after) = after
lanes_or lanes (Err packet) = lanes

-- the lanes behind it; a packet without room changes nothing
abbrev pub happens : Disturb → List (Lane Packet) → Event → List (Lane Packet)
happens disturb lanes (put packet) = lanes_or lanes (put_in disturb packet lanes)
happens disturb lanes (take partition) = (take_in partition lanes).1

abbrev pub run : Disturb → List (Lane Packet) → List Event → List (Lane Packet)
run disturb lanes [] = lanes
run disturb lanes (event ∷ events) = run disturb (happens disturb lanes event) events

-- ---- of one partition

abbrev pub put_if_ok : Packet → Result (List (Lane Packet)) Packet → List Packet
put_if_ok packet (Ok lanes) = packet ∷ []
put_if_ok packet (Err refused) = []

-- the packet that is put for it, unless it has no room
abbrev pub put_now : Disturb → ℕ → List (Lane Packet) → Event → List Packet
put_now disturb partition lanes (put packet) = if packet.dst == partition then put_if_ok packet (put_in disturb packet lanes) else []
put_now disturb partition lanes (take other) = []

-- the packet of it that is taken
abbrev pub taken_now : ℕ → List (Lane Packet) → Event → List Packet
taken_now partition lanes (put packet) = []
taken_now partition lanes (take other) = if other == partition then option_to_list (take_in other lanes).0 else []

-- all packets that are put for it, in order
abbrev pub put_for : Disturb → ℕ → List (Lane Packet) → List Event → List Packet
put_for disturb partition lanes [] = []
put_for disturb partition lanes (event ∷ events) = put_now disturb partition lanes event ++ put_for disturb partition (happens disturb lanes event) events

-- all packets of it that are taken, in order
abbrev pub taken_of : Disturb → ℕ → List (Lane Packet) → List Event → List Packet
taken_of disturb partition lanes [] = []
taken_of disturb partition lanes (event ∷ events) = taken_now partition lanes event ++ taken_of disturb partition (happens disturb lanes event) events

abbrev pub all_in : {P : Type 0} → Option (Lane P) → List P
all_in None = []
all_in (Some lane) = lane.queue ++ option_to_list lane.held

-- the packets that are still there, in the queue or held
abbrev pub there_for : ℕ → List (Lane Packet) → List Packet
there_for partition lanes = all_in (slice_get lanes partition)

-- ---- from the beginning

-- all packets of a partition that came out or are there, once these happened to so many empty lanes
abbrev pub seen_of : Disturb → (partitions partition : ℕ) → List Event → List Packet
seen_of disturb partitions partition events = taken_of disturb partition (empty_lanes partitions) events ++ there_for partition (run disturb (empty_lanes partitions) events)

-- all that were put for it
abbrev pub given_to : Disturb → (partitions partition : ℕ) → List Event → List Packet
given_to disturb partitions partition = put_for disturb partition (empty_lanes partitions)

-- each packet that is seen was put
abbrev pub OnlyWhatWasPut : Type 0
OnlyWhatWasPut = (disturb : Disturb) (partitions partition : ℕ) (events : List Event) (packet : Packet) → Contains (seen_of disturb partitions partition events) packet → Contains (given_to disturb partitions partition events) packet

-- nothing disturbs packets
abbrev pub undisturbed : Disturb
undisturbed = record { twice = 0; drop = 0; hold = 0 }

-- without disturbance what is seen is what was put, in its order
abbrev pub InOrder : Type 0
InOrder = (partitions partition : ℕ) (events : List Event) → partition < partitions → seen_of undisturbed partitions partition events ≡ given_to undisturbed partitions partition events
