-- What goes out where a log was opened again.
use Rattle.std.specs.Prelude.{◌≡◌, Bool, true, false, List, [], ◌++◌}
use Rattle.cell_frames.specs.declared.owning.Reopened.{Reopened}
use Rattle.cell_frames.specs.declared.owning.Reopened.TheVariants as reopenings
use Rattle.log_items.specs.declared.items.Packet.{Packet}

abbrev pub packets_in : Reopened → List Packet
packets_in (reopenings.Settled packets) = packets.items
packets_in reopenings.Dropped = []

-- what goes out by then was sent, and it is told whether a frame was settled
abbrev pub IsReopened : (old new : List Packet) → Reopened → Bool → Type 0
IsReopened old new (reopenings.Settled packets) settled = (new ≡ old ++ packets.items) × (settled ≡ true)
IsReopened old new reopenings.Dropped settled = (new ≡ old) × (settled ≡ false)
