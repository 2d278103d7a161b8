-- What entries of many partitions make of their states.
use Rattle.std.specs.Prelude.{◌≡◌, ◌<◌, ℕ, zero, suc, ◌+◌, ◌-◌, ◌==◌, ◌&&◌, ◌||◌, List, [], ◌∷◌, ◌++◌, length, drop, Bool, true, false, nat_le, nat_lt, if◌then◌else◌, Option, Some, None, option_map}
use Rattle.std.specs.Option.{option_and_then}
use Rattle.dura_value.specs.Items.{Identity, Item, got, trim, Entry, Posted}
use Rattle.dura_value.specs.Messages.{Message}
use Rattle.flow_syntax.specs.Syntax.{Flows}
use Rattle.dura_model.specs.Partition.{Partition, fresh, with_part}
use Rattle.log_items.specs.Streams.{Outbox}
use Rattle.part_items.specs.Logs.{or_else}
use Rattle.dura_model.specs.Entries.{entry_accepted}
use Rattle.dura_value.specs.Same.{identity_eq, message_eq}

-- ---- what is accepted

abbrev pub first_of : List Posted → Option Posted
first_of [] = None
first_of (posted ∷ later) = Some posted

-- the message of a stream under this number: there is none before its first, nor past its end
abbrev pub message_at : Outbox → (number : ℕ) → Option Posted
message_at box number = if nat_lt number box.first then None else first_of (drop (number - box.first) box.messages)

-- whether it is this message, sent by this entry
abbrev pub is_of : Identity → Message → Option Posted → Bool
is_of source message None = false
is_of source message (Some posted) = identity_eq posted.entry source && message_eq posted.message message

-- whether a stream has this message under this number, sent by this entry
abbrev pub stands_at : Outbox → Identity → (number : ℕ) → Message → Bool
stands_at box source number message = is_of source message (message_at box number)

-- the same, or it begins behind it
abbrev pub has_sent : Outbox → Identity → (number : ℕ) → Message → Bool
has_sent box source number message = nat_lt number box.first || stands_at box source number message

-- whether the other partitions are as far as an item of this one needs: what it takes in was sent, and what it lets go was read
abbrev pub is_ready : (ℕ → Partition) → (partition : ℕ) → Item → Bool
is_ready parts partition (got source number message) = has_sent ((parts source.partition).outboxes partition) source number message
is_ready parts partition (trim reader number) = nat_le number ((parts reader.partition).inboxes partition).next
is_ready parts partition item = true

abbrev pub are_ready : (ℕ → Partition) → (partition : ℕ) → List Item → Bool
are_ready parts partition [] = true
are_ready parts partition (item ∷ items) = is_ready parts partition item && are_ready parts partition items

-- the state that an entry of one of so many partitions makes, if it is accepted
abbrev pub commit_accepted : Flows → (count : ℕ) → (ℕ → Partition) → (partition : ℕ) → Entry → Option Partition
commit_accepted flows count parts partition entry = if are_ready parts partition entry.items then entry_accepted flows count (parts partition) entry else None

-- ---- in an order

-- an entry and its partition
pub record Commit : Type 0 where
  pub partition : ℕ
  pub entry : Entry

-- the states that entries make one after another in this order, if each is accepted
abbrev pub states_after : Flows → (count : ℕ) → (ℕ → Partition) → List Commit → Option (ℕ → Partition)
states_after flows count parts [] = Some parts
states_after flows count parts (one ∷ run) = option_and_then (λ next. states_after flows count (with_part parts one.partition next) run) (commit_accepted flows count parts one.partition one.entry)

-- the entries of one partition among these
abbrev pub of_partition : ℕ → List Commit → List Entry
of_partition partition [] = []
of_partition partition (one ∷ run) = if one.partition == partition then one.entry ∷ of_partition partition run else of_partition partition run

-- ---- without an order

-- the state of each partition, and which of its entries are left
pub record Placing : Type 0 where
  pub states : ℕ → Partition
  pub left : ℕ → List Entry

abbrev pub with_left : (ℕ → List Entry) → ℕ → List Entry → ℕ → List Entry
with_left left partition entries other = if partition == other then entries else left other

-- a partition takes its next entry, if that is accepted
abbrev pub takes : Flows → (count : ℕ) → Placing → (partition : ℕ) → List Entry → Option Placing
takes flows count s partition [] = None
takes flows count s partition (entry ∷ entries) =
    option_map (λ next. record { states = with_part s.states partition next; left = with_left s.left partition entries }) (commit_accepted flows count s.states partition entry)

-- of the first so many partitions the lowest whose next entry is accepted takes it
abbrev pub lowest : Flows → (count most : ℕ) → Placing → Option Placing
lowest flows count zero s = None
lowest flows count (suc most) s = or_else (lowest flows count most s) (takes flows count s most (s.left most))

abbrev pub goes_on : Placing → Option Placing → (Placing → Placing) → Placing
goes_on s None more = s
goes_on s (Some next) more = more next

-- again and again, so often at most
abbrev pub placed_in : Flows → (count often : ℕ) → Placing → Placing
placed_in flows count zero s = s
placed_in flows count (suc often) s = goes_on s (lowest flows count count s) (λ next. placed_in flows count often next)

-- how many entries the first so many partitions have
abbrev pub count_entries : ℕ → (ℕ → List Entry) → ℕ
count_entries zero logs = 0
count_entries (suc most) logs = count_entries most logs + length (logs most)

-- Again and again the lowest partition whose next entry is accepted takes it, from these states on.
abbrev pub placed_from : Flows → (count : ℕ) → (begin : ℕ → Partition) → (logs : ℕ → List Entry) → Placing
placed_from flows count begin logs = placed_in flows count (count_entries count logs) (record { states = begin; left = logs })

-- the same from the states on where nothing happened
abbrev pub placed : Flows → (count : ℕ) → (logs : ℕ → List Entry) → Placing
placed flows count logs = placed_from flows count fresh logs

-- ---- what is said of them

-- all are of the first so many partitions
abbrev pub AllBelow : (count : ℕ) → List Commit → Type 0
AllBelow count [] = Unit {0}
AllBelow count (one ∷ run) = (one.partition < count) × AllBelow count run

-- these are the states, and these entries of so many partitions are left
pub record HasPlaced (count : ℕ) (s : Placing) (final : ℕ → Partition) (rest : ℕ → List Entry) : Type 0 where
  pub states : s.states ≡ final
  pub left : (partition : ℕ) → partition < count → s.left partition ≡ rest partition

-- none of the next entries is accepted
abbrev pub IsStuck : Flows → (count : ℕ) → (ℕ → Partition) → (ℕ → List Entry) → Type 0
IsStuck flows count states rest = (partition : ℕ) → partition < count → (entry : Entry) (entries : List Entry) → rest partition ≡ entry ∷ entries → commit_accepted flows count states partition entry ≡ None

-- ---- frames

-- the entries of one partition, one after another
abbrev pub commits_at : (partition : ℕ) → List Entry → List Commit
commits_at partition [] = []
commits_at partition (entry ∷ entries) = record { partition = partition; entry = entry } ∷ commits_at partition entries

-- the frames of the first so many partitions, in the partitions' order
abbrev pub frames_in_order : (most : ℕ) → (ℕ → List Entry) → List Commit
frames_in_order zero going = []
frames_in_order (suc most) going = frames_in_order most going ++ commits_at most (going most)

-- the entries of a frame are accepted one after another
abbrev pub GoesThrough : Flows → (count : ℕ) → (ℕ → Partition) → (partition : ℕ) → List Entry → Type 0
GoesThrough flows count parts partition going = (after : ℕ → Partition) × (states_after flows count parts (commits_at partition going) ≡ Some after)

-- the other partitions are as far as each of these entries needs
abbrev pub AllReady : (ℕ → Partition) → (partition : ℕ) → List Entry → Type 0
AllReady parts partition [] = Unit {0}
AllReady parts partition (entry ∷ entries) = (are_ready parts partition entry.items ≡ true) × AllReady parts partition entries
