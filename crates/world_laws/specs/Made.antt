-- The entries that were made in a life, and what the world has of them.
use Rattle.std.specs.Prelude.{◌≡◌, ◌⊎◌, ◌<◌, ◌≤◌, ◌+◌, ℕ, List, [], ◌∷◌, ◌++◌, length, take, Some, Ok}
use Rattle.std.specs.List.{All, Contains, slice_get}
use Rattle.cell_frames.specs.Joined.{StoreView}
use Rattle.commit_gate.specs.Ledgers.{IsKnown}
use Rattle.commit_gate.specs.Met.{HasPosted}
use Rattle.commit_gate.specs.Refused.{Names, IsReady}
use Rattle.dura_model.specs.Entries.{placed}
use Rattle.dura_model.specs.Partition.{Partition, fresh}
use Rattle.dura_value.specs.Dependencies.{named_by, Lost, Ready}
use Rattle.dura_value.specs.Items.{Identity, Item, Entry, got, trim}
use Rattle.dura_value.specs.Messages.{Message}
use Rattle.dura_value.specs.Views.{message_of}
use Rattle.gated_store.specs.Follows.{ledgers_at}
use Rattle.gated_store.specs.Kept.{IsMade}
use Rattle.hub_store.specs.Trail.{Settled, of_part}
use Rattle.log_items.specs.Entries.{items_in, identity_at}
use Rattle.log_items.specs.declared.items.Packet.{Packet}
use Rattle.many_logs.specs.Placing.{states_after, of_partition}
use Rattle.many_rules.specs.Ledgers.{ledgers}
use Rattle.many_rules.specs.Makes.{Makes}
use Rattle.many_rules.specs.Rules.{Rules}
use Rattle.spec_cell.specs.Views.{CellView, HasFacts}
use Rattle.spec_tracker.specs.Marks.{floors_of, length_in}
use Rattle.spec_tracker.specs.declared.marks.Marks.{Marks}
use Rattle.spec_tracker.specs.declared.marks.Read.{Read}
use Rattle.trail_states.specs.HaveMade.{HaveMade}
use Rattle.world_core.specs.World.{WorldView}

-- An entry that was made in this life: its partition, the entries of this life that stood before it there, settled or not, and the entry.
pub record MadeEntry : Type 0 where
  pub partition : ℕ
  pub front : List Entry
  pub entry : Entry

-- it and what stood before it
abbrev pub line_of : MadeEntry → List Entry
line_of one = one.front ++ one.entry ∷ []

-- who it is
abbrev pub name_of : MadeEntry → Identity
name_of one = identity_at one.partition one.entry

-- the entries of this life that a cell has: those that are settled, and those that it holds
abbrev pub line_in : CellView → List Entry
line_in c = c.slot.mine ++ c.entries

-- these entries begin with those
abbrev pub BeginsWith : (whole front : List Entry) → Type 0
BeginsWith whole front = (behind : List Entry) × (whole ≡ front ++ behind)

-- ---- what is known of entries

-- an entry is settled, and no incarnation gave it up
abbrev pub IsReadyIn : Rules → StoreView → Identity → Type 0
IsReadyIn rules s = IsReady (ledgers_at (ledgers rules) s.trail) s.floors

-- an entry was recovered or is settled
abbrev pub IsKnownIn : Rules → StoreView → Identity → Type 0
IsKnownIn rules s e = IsKnown (ledgers rules e.partition (of_part e.partition s.trail)) e

-- ---- what entries sent

-- An entry that was made sent this message under this number: the stream of the state that it makes has it.
pub record HasSent (rules : Rules) (one : MadeEntry) (target number : ℕ) (message : Message) : Type 0 where
  pub after : Partition
  pub makes : placed rules.flows rules.count (rules.begin one.partition) (line_of one) ≡ Ok after
  pub posted : HasPosted (after.outboxes target) number (record { entry = name_of one; message = message })

-- One that was made in this life, by this name, sent it.
pub record WasSent (rules : Rules) (made : List MadeEntry) (source : Identity) (target number : ℕ) (message : Message) : Type 0 where
  pub one : MadeEntry
  pub there : Contains made one
  pub name : name_of one ≡ source
  pub sent : HasSent rules one target number message

-- it was sent by one that was made in this life, or was in the stream when the life began
abbrev pub IsSent : Rules → List MadeEntry → (source : Identity) → (target number : ℕ) → Message → Type 0
IsSent rules made source target number message =
    WasSent rules made source target number message
    ⊎ HasPosted ((rules.begin source.partition).outboxes target) number (record { entry = source; message = message })

-- what an item of a partition takes in was sent, and what it lets go was read by an entry that is known
abbrev pub IsTrue : Rules → List MadeEntry → StoreView → (partition : ℕ) → Item → Type 0
IsTrue rules made s partition (got source number message) = IsSent rules made source partition number message
IsTrue rules made s partition (trim reader number) = IsKnownIn rules s reader
IsTrue rules made s partition other = Unit {0}

-- ---- what holds of a world

-- Of a partition's cell: each entry of this life that it has was made; each that was made is still in its place there, or lost; each
-- was made in no later incarnation than the cell's; what it holds and what waits is true; and what the entries that are out name is ready.
pub record CellMade (rules : Rules) (made : List MadeEntry) (s : StoreView) (partition : ℕ) (c : CellView) : Type 0 where
  pub held : (front : List Entry) (entry : Entry) (behind : List Entry) → line_in c ≡ front ++ entry ∷ behind → Contains made (record { partition = partition; front = front; entry = entry })
  pub fate : (one : MadeEntry) → Contains made one → one.partition ≡ partition → BeginsWith (line_in c) (line_of one) ⊎ Lost (s.floors partition) (name_of one)
  pub younger : (one : MadeEntry) → Contains made one → one.partition ≡ partition → one.entry.incarnation ≤ c.incarnation
  pub holds : All (IsTrue rules made s partition) (items_in c.entries)
  pub waits : All (λ w. IsTrue rules made s partition w.item) c.waits
  pub ready : (item : Item) (e : Identity) → Contains (items_in (take c.out c.entries)) item → Names item e → IsReadyIn rules s e

-- What was known of the logs is true still: what was ready by it is ready, and each stream that was read was by an entry that is known.
pub record MarksHold (rules : Rules) (s : StoreView) (marks : Marks) : Type 0 where
  pub ready : (e : Identity) → e.partition < rules.count → Ready (length_in marks) (floors_of marks) e → IsReadyIn rules s e
  pub readers : (read : Read) → Contains marks.reads.items read → 0 < read.next → IsKnownIn rules s (record { partition = read.reader; incarnation = read.inc; position = read.pos })

-- All entries that were made in this life: each is of a partition that there is, and stands behind what was recovered and what stood before
-- it; each cell has of them what it should; each packet that was ever sent was sent by one; and all that was ever known of the logs is true
-- still.
pub record AreMade (rules : Rules) (made : List MadeEntry) (w : WorldView) : Type 0 where
  pub below : (one : MadeEntry) → Contains made one → one.partition < length w.cells
  pub numbered : (one : MadeEntry) → Contains made one → one.entry.position ≡ length (of_partition one.partition rules.recovered) + length one.front
  pub cells : (partition : ℕ) (c : CellView) → slice_get w.cells partition ≡ Some c → CellMade rules made w.store partition c
  pub packets : (packet : Packet) → Contains w.packets packet → IsSent rules made (record { partition = packet.src; incarnation = packet.inc; position = packet.pos }) packet.dst packet.seq (message_of packet.message)
  pub marks : (marks : Marks) → Contains w.marks marks → MarksHold rules w.store marks

-- ---- what stands under it

-- What was recovered made the states that the call begins with, and what is settled made others of them; each frame under way may be
-- made by its partition's state; so much is known of each cell; nothing that was recovered or settled was given up, nor anything of a
-- partition that isn't there; and what a settled entry names was recovered or settled.
pub record IsGrounded (rules : Rules) (w : WorldView) : Type 0 where
  pub begun : states_after rules.flows rules.count fresh rules.recovered ≡ Some rules.begin
  pub have : HaveMade rules w.store.trail
  pub frames : (partition : ℕ) → partition < rules.count → IsMade (Makes rules) w.store.latest (of_part partition w.store.trail) w.store.told partition (w.store.going partition)
  pub facts : (partition : ℕ) (c : CellView) → slice_get w.cells partition ≡ Some c → HasFacts rules.flows rules.count (rules.begin partition) c
  pub unlost : (e : Identity) → IsKnownIn rules w.store e → Lost (w.store.floors e.partition) e → ⊥
  pub floors : (partition : ℕ) → rules.count ≤ partition → w.store.floors partition ≡ []
  pub named : (one : Settled) (d : Identity) → Contains w.store.trail one → Contains (named_by one.entry.items) d → IsKnownIn rules w.store d
