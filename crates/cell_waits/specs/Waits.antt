-- What waits at a cell, and which of it.
use Rattle.std.specs.Prelude.{◌≡◌, ℕ, ◌&&◌, Bool, true, false, not, if◌then◌else◌, List, [], ◌∷◌, map, filter, Option, Some, None}
use Rattle.std.specs.List.{find, list_any}
use Rattle.std.specs.Str.{bytes_eq}
use Rattle.activity_table.specs.Table.{may}
use Rattle.dura_model.specs.Steps.{number_in}
use Rattle.dura_model.specs.World.{Activity}
use Rattle.dura_value.specs.Ids.{Id}
use Rattle.dura_value.specs.Items.{Identity, Floor, Item, took, got, ran, ended, fired, trim}
use Rattle.dura_value.specs.Messages.{Message}
use Rattle.dura_value.specs.Values.{value_eq}
use Rattle.dura_value.specs.Views.{id_of}
use Rattle.log_items.specs.Plain.{item_of}
use Rattle.part_rows.specs.Views.{activity_of}
use Rattle.spec_tracker.specs.Marks.{gives_up}
use Rattle.cell_waits.specs.Keys.{is_number, is_key}
use Rattle.cell_waits.specs.declared.wait.Wait.{Wait}
use Rattle.cell_waits.specs.declared.wait.Wait.TheVariants as waits
use Rattle.cell_waits.specs.declared.waits.Waits.{Waits}

-- what waits: the item that it is put as, and of an outcome the activity
pub record Waiting : Type 0 where
  pub item : Item
  pub activity : Option Activity

abbrev pub wait_of : Wait → Waiting
wait_of (waits.Outside item) = record { item = item_of item; activity = None }
wait_of (waits.Ended e) = record { item = ended (id_of e.id) e.task e.outcome; activity = Some (activity_of e.activity) }

abbrev pub waits_of : Waits → List Waiting
waits_of w = map wait_of w.queue.items

-- ---- what may wait

-- what comes from outside: a request, a packet of a stream from another partition, or the trim of a stream to one
abbrev pub IsOutside : Item → Type 0
IsOutside (took message) = Unit {0}
IsOutside (got source number message) = Unit {0}
IsOutside (trim reader number) = Unit {0}
IsOutside (ran from to stamp) = ⊥
IsOutside (ended id task outcome) = ⊥
IsOutside (fired id task stamp) = ⊥

-- an outcome that the activity may give
abbrev pub IsGiven : Activity → Item → Type 0
IsGiven activity (ended id task outcome) = may activity.name activity.argument outcome ≡ true
IsGiven activity other = ⊥

abbrev pub MayWaitFor : Option Activity → Item → Type 0
MayWaitFor None item = IsOutside item
MayWaitFor (Some activity) item = IsGiven activity item

-- without an activity it comes from outside, and with one it is an outcome that the activity may give
abbrev pub MayWait : Waiting → Type 0
MayWait w = MayWaitFor w.activity w.item

-- ---- what it is looked for by

-- the entry that sent a packet
abbrev pub sender_of : Item → Option Identity
sender_of (got entry number message) = Some entry
sender_of other = None

-- the partition whose stream a packet is of
abbrev pub source_of : Item → Option ℕ
source_of (got entry number message) = Some entry.partition
source_of other = None

-- the partition whose stream is trimmed
abbrev pub target_of : Item → Option ℕ
target_of (trim reader number) = Some reader.partition
target_of other = None

-- the message of a request
abbrev pub message_in : Item → Option Message
message_in (took message) = Some message
message_in other = None

-- the client of a request, and the request's number
abbrev pub asker_of : Item → Option (Id × ℕ)
asker_of (took message) = Some (message.from, number_in message.body)
asker_of other = None

-- whose outcome it is, and of which task
abbrev pub task_of : Item → Option (Id × ℕ)
task_of (ended id task outcome) = Some (id, task)
task_of other = None

-- whether it is a packet of the stream from this partition
abbrev pub is_of_stream : ℕ → Waiting → Bool
is_of_stream source w = is_number (source_of w.item) source

-- whether it is a trim of the stream to this partition
abbrev pub is_trim_of : ℕ → Waiting → Bool
is_trim_of target w = is_number (target_of w.item) target

-- whether it is a request of this client with this number
abbrev pub is_request_of : Id → ℕ → Waiting → Bool
is_request_of asker number w = is_key (asker_of w.item) asker number

-- whether it is of this task
abbrev pub is_of_task : Id → ℕ → Waiting → Bool
is_of_task id task w = is_key (task_of w.item) id task

-- whether it is this activity
abbrev pub is_activity : Activity → Option Activity → Bool
is_activity activity None = false
is_activity activity (Some other) = bytes_eq other.name activity.name && value_eq other.argument activity.argument

-- whether it is an outcome of this task of this activity
abbrev pub is_outcome_of : Id → ℕ → Activity → Waiting → Bool
is_outcome_of id task activity w = is_of_task id task w && is_activity activity w.activity

abbrev pub message_of_one : Option Waiting → Option Message
message_of_one None = None
message_of_one (Some w) = message_in w.item

-- the first request that waits for this client and number
abbrev pub request_in : List Waiting → Id → ℕ → Option Message
request_in waiting asker number = message_of_one (find (is_request_of asker number) waiting)

-- ---- what goes on to wait

abbrev pub is_lasting : Item → Bool
is_lasting (took message) = true
is_lasting (trim reader number) = true
is_lasting other = false

-- requests and trims go on to wait where entries are given up
abbrev pub lasting : Waiting → Bool
lasting w = is_lasting w.item

-- some floor gives an entry up
abbrev pub lost_by : List Floor → Identity → Bool
lost_by floors entry = list_any (λ floor. gives_up floor entry) floors

-- those that aren't packets of the stream from this partition
abbrev pub without_stream : ℕ → List Waiting → List Waiting
without_stream source = filter (λ w. not (is_of_stream source w))

-- a packet that is lost goes, and so do those of its stream behind it
abbrev pub before : (lost : Identity → Bool) → Waiting → Item → List Waiting → List Waiting
before lost w (got entry number message) rest = if lost entry then without_stream entry.partition rest else w ∷ rest
before lost w other rest = w ∷ rest

-- without the packets of each stream from its first lost one on
abbrev pub without_lost : (lost : Identity → Bool) → List Waiting → List Waiting
without_lost lost [] = []
without_lost lost (w ∷ waiting) = before lost w w.item (without_lost lost waiting)
