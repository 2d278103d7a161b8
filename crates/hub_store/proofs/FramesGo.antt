-- Frames that go on a log.
use Rattle.std.proofs.Common.{List}
use Rattle.dura_value.specs.Items.{Entry}
use Rattle.part_items.specs.Numbered.{Next, IsNumbered}
use Rattle.part_items.specs.ItemFits.{FitsFrame}
use Rattle.part_items.proofs.Writable.{frame_writable}
use Rattle.part_items.proofs.NumberedFrames.{numbered_again}
use Rattle.hub_store.specs.Frames.{GoesBehind}

pub frame_goes : (next : Next) (going : List Entry) → FitsFrame going → IsNumbered next going → GoesBehind next going
frame_goes next going fits numbered = record { spells = frame_writable going fits; again = numbered_again next going numbered fits }
