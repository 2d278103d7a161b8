-- What is tested before the gate in front of a frame is opened.
use Rattle.std.specs.Prelude.{◌≡◌, ◌≤◌, ℕ, ◌&&◌, List, [], ◌∷◌, Bool, true, nat_le, nat_lt}
use Rattle.dura_value.specs.Items.{Item, got, trim, Entry}
use Rattle.dura_model.specs.Partition.{Partition}
use Rattle.many_logs.specs.Placing.{stands_at}

-- What an item takes in stands in the stream as it is in memory, and the entry that sent it is settled; what it lets go was read by what is
-- settled. So long are the partitions' logs, and so far is each partition in the stream from each other.
abbrev pub may_pass : (ahead : ℕ → Partition) → (lengths : ℕ → ℕ) → (reads : ℕ → ℕ → ℕ) → (partition : ℕ) → Item → Bool
may_pass ahead lengths reads partition (got source number message) = stands_at ((ahead source.partition).outboxes partition) source number message && nat_lt source.position (lengths source.partition)
may_pass ahead lengths reads partition (trim reader number) = nat_le number (reads reader.partition partition)
may_pass ahead lengths reads partition item = true

abbrev pub all_pass : (ahead : ℕ → Partition) → (lengths : ℕ → ℕ) → (reads : ℕ → ℕ → ℕ) → (partition : ℕ) → List Item → Bool
all_pass ahead lengths reads partition [] = true
all_pass ahead lengths reads partition (item ∷ items) = may_pass ahead lengths reads partition item && all_pass ahead lengths reads partition items

-- the same of all entries of a frame
abbrev pub frame_passes : (ahead : ℕ → Partition) → (lengths : ℕ → ℕ) → (reads : ℕ → ℕ → ℕ) → (partition : ℕ) → List Entry → Bool
frame_passes ahead lengths reads partition [] = true
frame_passes ahead lengths reads partition (entry ∷ entries) = all_pass ahead lengths reads partition entry.items && frame_passes ahead lengths reads partition entries

-- what an item lets go of the stream to this partition ends here at most
abbrev pub LetsGo : (target most : ℕ) → Item → Type 0
LetsGo target most (trim reader number) = reader.partition ≡ target → number ≤ most
LetsGo target most item = Unit {0}

abbrev pub AllLetGo : (target most : ℕ) → List Item → Type 0
AllLetGo target most [] = Unit {0}
AllLetGo target most (item ∷ items) = LetsGo target most item × AllLetGo target most items

abbrev pub FrameLetsGo : (target most : ℕ) → List Entry → Type 0
FrameLetsGo target most [] = Unit {0}
FrameLetsGo target most (entry ∷ entries) = AllLetGo target most entry.items × FrameLetsGo target most entries
