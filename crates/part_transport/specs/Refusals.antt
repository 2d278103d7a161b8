-- Refused packets.
use Rattle.log_items.specs.declared.items.Packet.{Packet}
use Rattle.part_transport.specs.declared.transport.PutRefusal.{PutRefusal}
use Rattle.part_transport.specs.declared.transport.PutRefusal.TheVariants.{Full, Memory}

-- the packet that is given back
abbrev pub packet_in : PutRefusal → Packet
packet_in (Full packet) = packet
packet_in (Memory packet) = packet
