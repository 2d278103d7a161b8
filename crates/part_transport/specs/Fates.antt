-- What comes of a packet that is put.
use Rattle.std.specs.Prelude.{ℕ, ◌%◌, ◌==◌, ◌&&◌, ◌++◌, Bool, nat_lt, if◌then◌else◌, List, [], ◌∷◌, Option, Some, None}
use Rattle.std.specs.Option.{option_to_list}
use Rattle.log_items.specs.declared.items.Packet.{Packet}
use Rattle.part_transport.specs.declared.disturb.Brought.{Brought}
use Rattle.part_transport.specs.declared.disturb.Disturb.{Disturb}
use Rattle.part_transport.specs.declared.disturb.Fate.{Fate}
use Rattle.part_transport.specs.declared.disturb.Fate.TheVariants as fates

-- whether a number is a multiple of a period; of 0 none is
abbrev pub falls_on : (period number : ℕ) → Bool
falls_on period number = nat_lt 0 period && number % period == 0

-- what happens to the packet with this number
abbrev pub fate_of : Disturb → (number : ℕ) → Fate
fate_of disturb number =
    if falls_on disturb.drop number then fates.Dropped
    else if falls_on disturb.hold number then fates.Held
    else if falls_on disturb.twice number then fates.Twice
    else fates.Once

-- what comes of it at once, and what of it is held
abbrev pub brings : {P : Type 0} → Fate → P → List P × Option P
brings fates.Dropped packet = ([], None)
brings fates.Held packet = ([], Some packet)
brings fates.Once packet = (packet ∷ [], None)
brings fates.Twice packet = (packet ∷ packet ∷ [], None)

-- what comes where this packet is put and one may be held, and what is held from now on
abbrev pub comes : {P : Type 0} → Disturb → (number : ℕ) → (held : Option P) → P → List P × Option P
comes disturb number held packet =
    let own = brings (fate_of disturb number) packet in
    (own.0 ++ option_to_list held, own.1)

abbrev pub brought_of : Brought → List Packet × Option Packet
brought_of brought = (option_to_list brought.first ++ option_to_list brought.second, brought.held)
