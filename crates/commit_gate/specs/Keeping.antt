-- What a ledger must have a place for, and what stays of it.
use Rattle.std.specs.Prelude.{◌≡◌, ℕ, ◌+◌, ◌<◌, ◌^◌, List, length}
use Rattle.std.specs.List.{All}
use Rattle.dura_value.specs.Items.{Item, got, trim}
use Rattle.commit_gate.specs.declared.ledger.Ledger.{Ledger}
use Rattle.log_items.specs.Streams.{Sent}

-- it goes to one of so many partitions
abbrev pub GoesInside : (count : ℕ) → Sent → Type 0
GoesInside count one = one.to < count

-- it comes from one of so many, with another number to come, or is read by one
abbrev pub IsOfOne : (count : ℕ) → Item → Type 0
IsOfOne count (got source number message) = (source.partition < count) × (number + 1 < 2 ^ 64)
IsOfOne count (trim reader number) = reader.partition < count
IsOfOne count other = Unit {0}

abbrev pub AreOfOne : (count : ℕ) → List Item → Type 0
AreOfOne count = All (IsOfOne count)

-- what only a new incarnation changes
pub record KeepsPlaces (old new : Ledger) : Type 0 where
  pub boxes : length new.boxes.items ≡ length old.boxes.items
  pub nexts : length new.nexts.items ≡ length old.nexts.items
  pub readers : length new.readers.items ≡ length old.readers.items
  pub floors : new.floors ≡ old.floors

-- it has a place for each of so many partitions
pub record IsSized (count : ℕ) (ledger : Ledger) : Type 0 where
  pub boxes : length ledger.boxes.items ≡ count
  pub nexts : length ledger.nexts.items ≡ count
  pub readers : length ledger.readers.items ≡ count
