-- What entries of one partition among many make of what the others see of it: the messages that go to them, and those that come in.
use Rattle.std.specs.Prelude.{◌≡◌, ℕ, ◌+◌, ◌<◌, List, length}
use Rattle.std.specs.List.{All, Contains}
use Rattle.dura_value.specs.Items.{Identity, Item, Entry, got, trim}
use Rattle.log_items.specs.Entries.{items_in, identities_at}
use Rattle.log_items.specs.Readings.{nexts_after, ReadOn, readers_behind}
use Rattle.log_items.specs.Streams.{Sent, with_sent, boxes_after, LetGoInside}
use Rattle.dura_model.specs.Partition.{Partition}
use Rattle.dura_model.specs.Placed.{IsOther}

-- how far a partition took in the streams from others, and who took in the last message of each
abbrev pub nexts_in : Partition → ℕ → ℕ
nexts_in p source = (p.inboxes source).next

abbrev pub readers_in : Partition → ℕ → Identity
readers_in p source = (p.inboxes source).reader

-- what comes in is another partition's of so many, and another one has read what is let go
abbrev pub IsOfOthers : (count partition : ℕ) → Item → Type 0
IsOfOthers count partition (got source number message) = IsOther count partition source.partition
IsOfOthers count partition (trim reader number) = IsOther count partition reader.partition
IsOfOthers count partition other = Unit {0}

-- nothing comes in by it, and nothing is let go
abbrev pub IsLocal : Item → Type 0
IsLocal (got source number message) = ⊥
IsLocal (trim reader number) = ⊥
IsLocal other = Unit {0}

-- Entries that a partition among so many accepts one after another make this of what others see of it.
pub record Sends (count partition : ℕ) (p : Partition) (entries : List Entry) (next : Partition) : Type 0 where
  -- the messages that they send to other partitions, in order
  pub sent : List Sent
  -- each goes to one of so many, and one of these entries sends it
  pub senders : All (λ one. (one.to < count) × Contains (identities_at partition entries) one.posted.entry) sent
  -- none goes to the partition itself
  pub away : All (λ one. one.to ≡ partition → ⊥) sent
  -- all join their streams, and then the items let go of messages
  pub boxes : next.outboxes ≡ boxes_after (with_sent p.outboxes sent) (items_in entries)
  -- what is let go lies inside the streams that they joined
  pub let_go : LetGoInside (with_sent p.outboxes sent) (items_in entries)
  -- the streams from others are taken in as far as the items say
  pub nexts : nexts_in next ≡ nexts_after (nexts_in p) (items_in entries)
  -- each message that comes in is the next of its stream
  pub reads : ReadOn (nexts_in p) (items_in entries)
  -- the last message of each stream was taken in by the entry with that item
  pub readers : readers_in next ≡ readers_behind partition (readers_in p) entries
  -- what comes in and what is let go is others'
  pub inside : All (IsOfOthers count partition) (items_in entries)
  -- the next entry comes behind these
  pub position : next.position ≡ p.position + length entries
  -- it is the same partition
  pub number : next.number ≡ p.number
