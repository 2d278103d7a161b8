-- How far the streams from others were taken in.
use Rattle.std.specs.Prelude.{◌≡◌, ℕ, ◌+◌, ◌==◌, List, [], ◌∷◌, if◌then◌else◌}
use Rattle.dura_value.specs.Items.{Identity, Item, Entry, got}
use Rattle.log_items.specs.Entries.{identity_at}

-- the stream from a partition was taken in up to this number
abbrev pub with_next : (ℕ → ℕ) → (source next : ℕ) → ℕ → ℕ
with_next nexts source next other = if source == other then next else nexts other

-- how far streams were taken in once these items were
abbrev pub nexts_after : (ℕ → ℕ) → List Item → ℕ → ℕ
nexts_after nexts [] = nexts
nexts_after nexts (got source number message ∷ items) = nexts_after (with_next nexts source.partition (number + 1)) items
nexts_after nexts (other ∷ items) = nexts_after nexts items

-- who took in the last message of the stream from each partition, once this entry took in these
abbrev pub with_reader : (ℕ → Identity) → (source : ℕ) → Identity → ℕ → Identity
with_reader readers source reader other = if source == other then reader else readers other

abbrev pub readers_after : (reader : Identity) → (ℕ → Identity) → List Item → ℕ → Identity
readers_after reader readers [] = readers
readers_after reader readers (got source number message ∷ items) = readers_after reader (with_reader readers source.partition reader) items
readers_after reader readers (other ∷ items) = readers_after reader readers items

-- the same once these entries of one partition took in theirs, one after another
abbrev pub readers_behind : (partition : ℕ) → (ℕ → Identity) → List Entry → ℕ → Identity
readers_behind partition readers [] = readers
readers_behind partition readers (entry ∷ entries) = readers_behind partition (readers_after (identity_at partition entry) readers entry.items) entries

-- each message that comes in is the next of its stream
abbrev pub ReadOn : (nexts : ℕ → ℕ) → List Item → Type 0
ReadOn nexts [] = Unit {0}
ReadOn nexts (got source number message ∷ items) = (number ≡ nexts source.partition) × ReadOn (with_next nexts source.partition (number + 1)) items
ReadOn nexts (other ∷ items) = ReadOn nexts items
