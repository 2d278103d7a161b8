-- What lets go of messages that were read.
use Rattle.std.specs.Prelude.{◌≡◌, ℕ, ◌==◌, ◌&&◌, Bool, false, nat_lt, if◌then◌else◌, List, [], ◌∷◌, ◌++◌, length, None}
use Rattle.std.specs.List.{flat_map, list_any}
use Rattle.cell_waits.specs.Waits.{Waiting, is_trim_of}
use Rattle.dura_model.specs.Partition.{Partition}
use Rattle.dura_value.specs.Items.{Item, trim}
use Rattle.log_items.specs.Streams.{Outbox}
use Rattle.spec_cell.specs.Views.{CellView}
use Rattle.spec_tracker.specs.declared.marks.Marks.{Marks}
use Rattle.spec_tracker.specs.declared.marks.Read.{Read}

-- the stream still has a message before this number
abbrev pub has_before : Outbox → ℕ → Bool
has_before box number = nat_lt 0 (length box.messages) && nat_lt box.first number

-- what lets go of what its reader has taken in of a stream, in the name of the entry that took the last
abbrev pub trim_by : Read → Item
trim_by read = trim (record { partition = read.reader; incarnation = read.inc; position = read.pos }) read.next

-- of a partition's streams what lets go of what was read, where the stream still has some of it
abbrev pub trims_of : Partition → Read → List Item
trims_of p read = if read.source == p.number && has_before (p.outboxes read.reader) read.next then trim_by read ∷ [] else []

abbrev pub trims_by : Partition → List Read → List Item
trims_by p = flat_map (trims_of p)

-- whether a trim of the same stream waits
abbrev pub has_trim : List Waiting → Item → Bool
has_trim waits (trim reader number) = list_any (is_trim_of reader.partition) waits
has_trim waits other = false

-- each waits behind all others, unless one of its stream waits already
abbrev pub with_trims : List Waiting → List Item → List Waiting
with_trims waits [] = waits
with_trims waits (item ∷ items) = with_trims (if has_trim waits item then waits else waits ++ (record { item = item; activity = None }) ∷ []) items

-- Of each stream whose reader has taken in what the state ahead still has of it a trim waits; so many streams there are.
abbrev pub Trims : Marks → (ahead : Partition) → (old : CellView) → (count : ℕ) → (new : CellView) → Type 0
Trims marks ahead old count new = (count ≡ length (trims_by ahead marks.reads.items)) × (new ≡ record old { waits = with_trims old.waits (trims_by ahead marks.reads.items) })
