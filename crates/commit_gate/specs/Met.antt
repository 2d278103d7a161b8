-- What a frame takes from others: its messages are the streams', and what it lets go was read by entries that are known.
use Rattle.std.specs.Prelude.{◌≡◌, ℕ, ◌-◌, ◌≤◌, List, Some}
use Rattle.std.specs.List.{All, slice_get}
use Rattle.dura_value.specs.Items.{Item, Entry, Posted, got, trim}
use Rattle.log_items.specs.Streams.{Outbox}
use Rattle.commit_gate.specs.Ledgers.{Ledger, IsKnown}
use Rattle.log_items.specs.Entries.{items_in}

-- the stream has this under this number
pub record HasPosted (box : Outbox) (number : ℕ) (posted : Posted) : Type 0 where
  pub begun : box.first ≤ number
  pub stands : slice_get box.messages (number - box.first) ≡ Some posted

abbrev pub IsMet : (ℕ → Ledger) → (partition : ℕ) → Item → Type 0
IsMet ledgers partition (got source number message) = HasPosted ((ledgers source.partition).boxes partition) number (record { entry = source; message = message })
IsMet ledgers partition (trim reader number) = (number ≤ (ledgers reader.partition).nexts partition) × IsKnown (ledgers reader.partition) reader
IsMet ledgers partition other = Unit {0}

abbrev pub AreMet : (ℕ → Ledger) → (partition : ℕ) → List Entry → Type 0
AreMet ledgers partition entries = All (IsMet ledgers partition) (items_in entries)
