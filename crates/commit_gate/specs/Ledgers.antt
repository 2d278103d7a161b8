-- What other partitions see of one.
use Rattle.std.specs.Prelude.{◌≡◌, ℕ, List, ◌++◌, length, Some}
use Rattle.std.specs.List.{slice_get}
use Rattle.dura_value.specs.Items.{Identity, Item, Entry}
use Rattle.log_items.specs.Entries.{items_in, incarnations_in}
use Rattle.log_items.specs.Readings.{nexts_after}
use Rattle.log_items.specs.Streams.{Outbox, Sent, with_sent, boxes_after}

-- Of a partition each entry that was recovered or settled, by its position, is of this incarnation. It has taken in the streams from
-- others up to these numbers, and this is left of its own.
pub record Ledger : Type 0 where
  pub incarnations : List ℕ
  pub nexts : ℕ → ℕ
  pub boxes : ℕ → Outbox

-- how many of its entries were recovered or settled
abbrev pub log_length : Ledger → ℕ
log_length ledger = length ledger.incarnations

-- an entry of the partition is one of them, by its identity
abbrev pub IsKnown : Ledger → Identity → Type 0
IsKnown ledger e = slice_get ledger.incarnations e.position ≡ Some e.incarnation

-- ---- what a frame makes of it

-- a frame is under way, with what it sends
abbrev pub with_frame : Ledger → List Entry → List Sent → Ledger
with_frame ledger entries sent = record ledger { incarnations = ledger.incarnations ++ incarnations_in entries; boxes = with_sent ledger.boxes sent }

-- it is settled: its messages stand in the streams, and then its items take in and let go
abbrev pub after_items : List Item → Ledger → Ledger
after_items items ledger = record ledger { nexts = nexts_after ledger.nexts items; boxes = boxes_after ledger.boxes items }

abbrev pub after_frame : Ledger → List Entry → List Sent → Ledger
after_frame ledger entries sent = after_items (items_in entries) (with_frame ledger entries sent)
