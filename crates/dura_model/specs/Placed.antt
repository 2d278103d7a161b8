-- What the states of all partitions need, so that they show a world.
use Rattle.std.specs.Prelude.{◌≡◌, ◌⊎◌, ℕ, ◌+◌, ◌-◌, ◌<◌, ◌≤◌, List, [], ◌∷◌, length, drop, true, Option, Some, None, option_map, is_some}
use Rattle.std.specs.List.{Contains}
use Rattle.activity_table.specs.Table.{may}
use Rattle.dura_value.specs.Ids.{Id, home}
use Rattle.dura_value.specs.Items.{Identity, Item, took, got, ran, ended, fired, trim, Posted}
use Rattle.dura_value.specs.Messages.{Answer, Message}
use Rattle.flow_syntax.specs.Syntax.{Flows}
use Rattle.flow_syntax.specs.Machine.{Past}
use Rattle.flow_syntax.specs.Entity.{Entity}
use Rattle.dura_model.specs.World.{Activity}
use Rattle.dura_model.specs.Steps.{Label, step}
use Rattle.dura_model.specs.Partition.{Row, Inbox, Partition, first_in, accepted, shown, with_part}
use Rattle.log_items.specs.Streams.{Outbox}

-- an entry of this partition, before this position and of no later incarnation than this
pub record IsBehind (place position incarnation : ℕ) (entry : Identity) : Type 0 where
  pub here : entry.partition ≡ place
  pub before : entry.position < position
  pub alive : entry.incarnation ≤ incarnation

-- another partition of so many
pub record IsOther (count place other : ℕ) : Type 0 where
  pub apart : other ≡ place → ⊥
  pub below : other < count

-- each id that something is kept for lives at this place
abbrev pub Live : {X : Type 0} → (count place : ℕ) → (Id → Option X) → Type 0
Live {X} count place f = (id : Id) (x : X) → f id ≡ Some x → home count id ≡ place

abbrev pub NumbersLive : {X : Type 0} → (count place : ℕ) → (Id → ℕ → Option X) → Type 0
NumbersLive {X} count place f = (id : Id) (number : ℕ) (x : X) → f id number ≡ Some x → home count id ≡ place

-- All that has rows lives at this place.
pub record RowsLive (count place : ℕ) (taken : Id → ℕ → Option Message) (answers : Id → ℕ → Option Answer) (instances : Id → Option Row) (entities : Id → Option Entity) (activities : Id → ℕ → Option Activity) (timers : Id → ℕ → Option ℕ) : Type 0 where
  -- a client with requests
  pub requests : NumbersLive count place taken
  -- a client with answers
  pub answered : NumbersLive count place answers
  -- an instance
  pub kept : Live count place instances
  -- an entity
  pub reached : Live count place entities
  -- an instance with activities
  pub pending : NumbersLive count place activities
  -- an instance with timers
  pub due : NumbersLive count place timers

-- The streams to other partitions.
pub record OutboxesStand (count place position incarnation : ℕ) (outboxes : ℕ → Outbox) : Type 0 where
  -- there is none to the place itself or past the count
  pub others : (target : ℕ) → IsOther count place target ⊎ (outboxes target ≡ record { first = 0; messages = [] })
  -- the sender of a message lives here
  pub senders : (target : ℕ) (posted : Posted) → Contains (outboxes target).messages posted → home count posted.message.from ≡ place
  -- its receiver lives at the target
  pub receivers : (target : ℕ) (posted : Posted) → Contains (outboxes target).messages posted → home count posted.message.to ≡ target
  -- the entry that sends it is an earlier one
  pub earlier : (target : ℕ) (posted : Posted) → Contains (outboxes target).messages posted → IsBehind place position incarnation posted.entry

-- How far the streams from other partitions were taken in.
pub record InboxesStand (count place position incarnation : ℕ) (inboxes : ℕ → Inbox) : Type 0 where
  -- nothing came in from the place itself or from past the count
  pub others : (source : ℕ) → IsOther count place source ⊎ ((inboxes source).next ≡ 0)
  -- the entry that took in the last message is an earlier one
  pub earlier : (source : ℕ) → 0 < (inboxes source).next → IsBehind place position incarnation (inboxes source).reader

-- Nothing is of a later stamp than this.
pub record StampsStand (stamp : ℕ) (instances : Id → Option Row) (entities : Id → Option Entity) : Type 0 where
  -- an instance's last stamp
  pub rows : (id : Id) (row : Row) → instances id ≡ Some row → row.stamp ≤ stamp
  -- the stamp of an event
  pub events : (id : Id) (row : Row) → instances id ≡ Some row → (past : Past) → Contains row.history past → past.stamp ≤ stamp
  -- an entity's last stamp
  pub lasts : (id : Id) (e : Entity) → entities id ≡ Some e → e.last ≤ stamp

-- What the state at a place among so many needs by itself.
pub record Belongs (count place : ℕ) (p : Partition) : Type 0 where
  -- its number is its place
  pub number : p.number ≡ place
  -- all that has rows lives here
  pub rows : RowsLive count place p.taken p.answers p.instances p.entities p.activities p.timers
  -- the receiver of a message in the queue lives here
  pub queue : (message : Message) → Contains p.queue message → home count message.to ≡ place
  -- its streams are to other partitions, from here to there, by its entries so far
  pub outboxes : OutboxesStand count place p.position p.incarnation p.outboxes
  -- what came in is from other partitions, taken in by its entries so far
  pub inboxes : InboxesStand count place p.position p.incarnation p.inboxes
  -- nothing in it is of a later stamp than its own
  pub stamps : StampsStand p.stamp p.instances p.entities

-- each of its pending activities and timers is of an instance that is there
pub record AreOfInstances (p : Partition) : Type 0 where
  pub pending : (id : Id) (task : ℕ) (activity : Activity) → p.activities id task ≡ Some activity → is_some (p.instances id) ≡ true
  pub due : (id : Id) (task due : ℕ) → p.timers id task ≡ Some due → is_some (p.instances id) ≡ true

-- The next message that a partition reads of another's stream lies from the stream's first to its end.
pub record IsReader (parts : ℕ → Partition) (source target : ℕ) : Type 0 where
  pub from_first : ((parts source).outboxes target).first ≤ ((parts target).inboxes source).next
  pub to_end : ((parts target).inboxes source).next ≤ ((parts source).outboxes target).first + length ((parts source).outboxes target).messages

-- So many partitions show a world.
pub record AreShown (count : ℕ) (parts : ℕ → Partition) : Type 0 where
  pub each : (place : ℕ) → place < count → Belongs count place (parts place)
  pub readers : (source target : ℕ) → source < count → target < count → IsReader parts source target

-- The stream from an entry's partition to another has this message under this number, and that entry sends it.
pub record IsStreamed (parts : ℕ → Partition) (source : Identity) (target number : ℕ) (message : Message) : Type 0 where
  pub begun : ((parts source.partition).outboxes target).first ≤ number
  pub later : List Posted
  pub stands : drop (number - ((parts source.partition).outboxes target).first) ((parts source.partition).outboxes target).messages ≡ record { entry = source; message = message } ∷ later

-- where the label of an item happens
abbrev pub happens_at : Item → Option Id
happens_at (took message) = Some message.from
happens_at (ran from to stamp) = Some to
happens_at (ended id task outcome) = Some id
happens_at (fired id task stamp) = Some id
happens_at other = None

-- What an item that was accepted in a state needs so that it is its label: of a link that is delivered a message came in,
-- and an outcome is one that the pending activity may give.
abbrev pub IsGiven : Partition → Item → Type 0
IsGiven p (ran from to stamp) = first_in p.queue from to ≡ None → ⊥
IsGiven p (ended id task outcome) = (activity : Activity) → p.activities id task ≡ Some activity → may activity.name activity.argument outcome ≡ true
IsGiven p other = Unit {0}

-- What comes in to a partition is the stream's, and what it lets go was read.
abbrev pub IsOfStreams : (ℕ → Partition) → ℕ → Item → Type 0
IsOfStreams parts p (got source number message) = IsStreamed parts source p number message
IsOfStreams parts p (trim reader number) = number ≤ ((parts reader.partition).inboxes p).next
IsOfStreams parts p other = Unit {0}

-- An item makes of one of the states what a label makes of the world that they show.
abbrev pub IsLabelled : Flows → (count : ℕ) → (ℕ → Partition) → ℕ → Item → Label → Type 0
IsLabelled flows count parts p item label = option_map (λ next. shown flows count (with_part parts p next)) (accepted flows count (parts p) item) ≡ step flows (shown flows count parts) label

-- An item makes of one of the states nothing that shows.
abbrev pub ShowsNothing : Flows → (count : ℕ) → (ℕ → Partition) → ℕ → Item → Type 0
ShowsNothing flows count parts p item = (next : Partition) → accepted flows count (parts p) item ≡ Some next → shown flows count (with_part parts p next) ≡ shown flows count parts

-- two states of one partition, in the same entry
pub record IsSameEntry (p next : Partition) : Type 0 where
  pub number : next.number ≡ p.number
  pub position : next.position ≡ p.position
  pub incarnation : next.incarnation ≡ p.incarnation
