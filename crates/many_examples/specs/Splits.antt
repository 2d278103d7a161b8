-- A run of the failure-free machine, taken by the partitions in which its labels happen: each label is an entry of its own partition,
-- which first takes in all that the stream from its sender's partition has.
use Rattle.std.specs.Prelude.{◌≡◌, ◌==◌, ℕ, zero, suc, ◌+◌, ◌-◌, List, [], ◌∷◌, ◌++◌, nat_le, Bool, true, false, if◌then◌else◌, drop, map, Option, Some, None}
use Rattle.dura_value.specs.Ids.{Id, home}
use Rattle.dura_value.specs.Items.{Item, took, got, ran, ended, fired, trim, Entry, Posted}
use Rattle.dura_value.specs.Messages.{Answer}
use Rattle.flow_syntax.specs.Syntax.{Flows}
use Rattle.dura_model.specs.Partition.{Partition, fresh, with_part}
use Rattle.log_items.specs.Streams.{Outbox}
use Rattle.dura_model.specs.Steps.{Label, take, deliver, finish, fire}
use Rattle.many_logs.specs.Labels.{labels_of_commits}
use Rattle.many_logs.specs.Placing.{Commit, commit_accepted, of_partition, placed, Placing}

-- whom a label happens to
abbrev pub happens_to : Label → Id
happens_to (take who number message) = who
happens_to (deliver from to stamp) = to
happens_to (finish id task outcome) = id
happens_to (fire id task stamp) = id

abbrev pub item_of : Label → Item
item_of (take who number message) = took message
item_of (deliver from to stamp) = ran from to stamp
item_of (finish id task outcome) = ended id task outcome
item_of (fire id task stamp) = fired id task stamp

-- all that a stream has from this number on comes in
abbrev pub comings : (number : ℕ) → List Posted → List Item
comings number [] = []
comings number (posted ∷ later) = got posted.entry number posted.message ∷ comings (suc number) later

abbrev pub comings_of : Outbox → (next : ℕ) → List Item
comings_of box next = comings next (drop (next - box.first) box.messages)

-- what comes in before a label
abbrev pub before_label : (count : ℕ) → (ℕ → Partition) → (partition : ℕ) → Label → List Item
before_label count states partition (deliver from to stamp) =
    if home count from == partition then [] else comings_of ((states (home count from)).outboxes partition) ((states partition).inboxes (home count from)).next
before_label count states partition label = []

-- the entry of a partition with these items
abbrev pub entry_in : (ℕ → Partition) → (partition : ℕ) → List Item → Entry
entry_in states partition items = record { position = (states partition).position; incarnation = 0; items = items }

abbrev pub commit_of : (count : ℕ) → (ℕ → Partition) → Label → Commit
commit_of count states label = record {
  partition = home count (happens_to label);
  entry = entry_in states (home count (happens_to label)) (before_label count states (home count (happens_to label)) label ++ item_of label ∷ []);
}

-- a commit, and what follows it, if it is accepted
abbrev pub and_then : (ℕ → Partition) → Commit → Option Partition → ((ℕ → Partition) → List Commit) → List Commit
and_then states one None more = []
and_then states one (Some next) more = one ∷ more (with_part states one.partition next)

-- each of these partitions lets go of what was read of its stream to this one
abbrev pub trims_from : Flows → (count target most : ℕ) → (ℕ → Partition) → List Commit
trims_from flows count target zero states = []
trims_from flows count target (suc most) states =
    trims_from flows count target most states
    ++ (if ((states target).inboxes most).next == 0 then [] else record {
      partition = most;
      entry = entry_in states most (trim ((states target).inboxes most).reader ((states target).inboxes most).next ∷ []);
    } ∷ [])

-- the labels' entries one after another, and at last one of each partition that lets go of what partition 0 has read
abbrev pub split : Flows → (count : ℕ) → (ℕ → Partition) → List Label → List Commit
split flows count states [] = trims_from flows count 0 count states
split flows count states (label ∷ labels) =
    let one = commit_of count states label in
    and_then states one (commit_accepted flows count states one.partition one.entry) (λ next. split flows count next labels)

abbrev pub splitting : Flows → (count : ℕ) → List Label → List Commit
splitting flows count labels = split flows count fresh labels

-- ---- what is said of it

-- the logs of partitions in which these were committed
abbrev pub logs_of : List Commit → ℕ → List Entry
logs_of commits partition = of_partition partition commits

-- the entries that are left of the first so many partitions
abbrev pub all_left : (most : ℕ) → Placing → List Entry
all_left zero s = []
all_left (suc most) s = all_left most s ++ s.left most

abbrev pub comes_in : Item → Bool
comes_in (got source number message) = true
comes_in item = false

abbrev pub counted : List Item → ℕ
counted [] = 0
counted (item ∷ items) = (if comes_in item then 1 else 0) + counted items

-- how many messages came in from other partitions
abbrev pub count_in : List Commit → ℕ
count_in [] = 0
count_in (one ∷ commits) = counted one.entry.items + count_in commits

-- what clients are answered, each by its home
abbrev pub answered_in : (count : ℕ) → (ℕ → Partition) → List (Id × ℕ) → List (Option Answer)
answered_in count states = map (λ one. (states (home count one.0)).answers one.0 one.1)

-- The labels are those of the run; all entries are placed, lowest partition first; clients are answered so; and no fewer messages came in
-- than were delivered from one partition to another.
abbrev pub Agree : Flows → (count : ℕ) → List Label → List (Id × ℕ) → List (Option Answer) → (crossings : ℕ) → Type 0
Agree flows count run asked answers crossings =
    (labels_of_commits (splitting flows count run) ≡ run)
    × (all_left count (placed flows count (logs_of (splitting flows count run))) ≡ [])
    × (answered_in count (placed flows count (logs_of (splitting flows count run))).states asked ≡ answers)
    × (nat_le crossings (count_in (splitting flows count run)) ≡ true)
