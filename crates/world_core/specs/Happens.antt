-- What an event makes of the world.
use Rattle.std.specs.Prelude.{◌≡◌, ◌≢◌, ◌⊎◌, ℕ, false, true, max, List, [], ◌∷◌, ◌++◌, Some, None, Ok, Err, slice_get}
use Rattle.std.specs.List.{All}
use Rattle.std.specs.declared.alloc.Global.{Global}
use Rattle.std.specs.declared.vec.Vec.{Vec}
use Rattle.cell_frames.specs.Judges.{Judges}
use Rattle.cell_frames.specs.Settles.{IsOnTrail, SettlesFrame}
use Rattle.cell_frames.specs.Writes.{Writes, IsFull}
use Rattle.cell_frames.specs.declared.owning.Reopened.{Reopened}
use Rattle.cell_frames.specs.declared.owning.Reopened.TheVariants as reopenings
use Rattle.cell_steps.specs.declared.mode.Mode.{Mode}
use Rattle.cell_waits.specs.declared.wait.Ended.{Ended}
use Rattle.commit_gate.specs.Refused.{Passes, RefusesFirst}
use Rattle.dura_value.specs.Ids.{home}
use Rattle.dura_value.specs.Items.{Entry}
use Rattle.dura_value.specs.Messages.{Message}
use Rattle.dura_value.specs.Views.{message_of}
use Rattle.gated_store.specs.Follows.{ledgers_at}
use Rattle.hub_store.specs.Changes.{asked}
use Rattle.hub_store.specs.Ways.{is_open}
use Rattle.hub_store.specs.declared.refusal.BodyRefusal.TheVariants as body_refusals
use Rattle.hub_store.specs.declared.way.Stage.{Stage}
use Rattle.hub_store.specs.declared.way.Stage.TheVariants as stages
use Rattle.log_items.specs.Entries.{items_in}
use Rattle.log_items.specs.declared.items.Packet.{Packet}
use Rattle.many_rules.specs.Answering.{answer}
use Rattle.many_rules.specs.Ledgers.{ledgers}
use Rattle.many_rules.specs.Rules.{Rules}
use Rattle.spec_cell.specs.Turns.{IsHeld, MakesEntry, IsIdle, IsSpent}
use Rattle.spec_cell.specs.Views.{CellView, CountsDue}
use Rattle.spec_cell.specs.declared.coming.Arrived.{Arrived}
use Rattle.spec_cell.specs.declared.coming.Arrived.TheVariants as arrivals
use Rattle.spec_cell.specs.declared.coming.Offered.TheVariants as offers
use Rattle.spec_cell.specs.declared.coming.Recorded.TheVariants as records
use Rattle.spec_cell.specs.declared.moving.CellRewind.TheVariants as rewinds
use Rattle.spec_tracker.specs.declared.marks.Marks.{Marks}
use Rattle.world_core.specs.Reopens.{packets_in}
use Rattle.world_steps.specs.TakesOver.{TakesOver, CantTakeOver}
use Rattle.world_core.specs.Unmet.{is_unmet, is_outcome, place_ago}
use Rattle.world_core.specs.World.{WorldView}
use Rattle.world_steps.specs.Cells.{CellBecomes}
use Rattle.world_steps.specs.Comes.{OffersTo, ArrivesAt, RecordsAt, TrimsAt}
use Rattle.world_steps.specs.Known.{AreMarksOf}
use Rattle.world_core.specs.declared.answer.Answer.{Answer}
use Rattle.world_core.specs.declared.answer.Answer.TheVariants as answers
use Rattle.world_core.specs.declared.event.Event.{Event}
use Rattle.world_core.specs.declared.event.Event.TheVariants as events

-- only cells changed
abbrev pub OnlyCells : (old new : WorldView) → Type 0
OnlyCells old new = new ≡ record old { cells = new.cells }

-- only cells changed, and these packets were sent
abbrev pub OnlySends : (old new : WorldView) → List Packet → Type 0
OnlySends old new packets = new ≡ record old { cells = new.cells; packets = old.packets ++ packets }

-- no packet was sent, and nothing more is known of the logs
abbrev pub SendsNothing : (old new : WorldView) → Type 0
SendsNothing old new = (new.packets ≡ old.packets) × (new.marks ≡ old.marks)

-- The life is over, and the store is as it was.
pub record EndsLife (old new : WorldView) : Type 0 where
  pub ended : new.ended ≡ true
  pub store : new.store ≡ old.store

-- the life is over, for a fault of the outside or want of memory, and nothing was settled and nothing said
pub record EndsAs (old new : WorldView) : Type 0 where
  pub ended : new.ended ≡ true
  pub trail : new.store.trail ≡ old.store.trail
  pub told : new.store.told ≡ old.store.told

-- ---- what comes to a cell

module _ (rules : Rules) where
  abbrev pub HasSubmitted : Message → (old new : WorldView) → Answer → Type 0
  HasSubmitted message old new answers.Queued = OnlyCells old new × CellBecomes (home rules.count message.from) old.cells new.cells (OffersTo rules message offers.Queued)
  HasSubmitted message old new answers.Taken = OnlyCells old new × CellBecomes (home rules.count message.from) old.cells new.cells (OffersTo rules message offers.Taken)
  HasSubmitted message old new (answers.Answered reply) = OnlyCells old new × CellBecomes (home rules.count message.from) old.cells new.cells (OffersTo rules message (offers.Kept reply))
  HasSubmitted message old new answers.Clash = OnlyCells old new × CellBecomes (home rules.count message.from) old.cells new.cells (OffersTo rules message offers.Clash)
  HasSubmitted message old new answers.Memory = EndsLife old new
  HasSubmitted message old new other = ⊥

  -- the packet that was sent at this place comes
  abbrev pub Brings : (partition place : ℕ) → (old new : WorldView) → Arrived → Type 0
  Brings partition place old new arrived = OnlyCells old new × ((packet : Packet) × (slice_get old.packets place ≡ Some packet) × CellBecomes partition old.cells new.cells (ArrivesAt rules packet arrived))

  abbrev pub HasArrived : (partition packet : ℕ) → (old new : WorldView) → Answer → Type 0
  HasArrived partition place old new answers.Queued = Brings partition place old new arrivals.Queued
  HasArrived partition place old new (answers.Repeat next) = Brings partition place old new (arrivals.Repeat next)
  HasArrived partition place old new (answers.Gap next) = Brings partition place old new (arrivals.Gap next)
  HasArrived partition place old new answers.Memory = EndsLife old new
  HasArrived partition place old new other = ⊥

  abbrev pub HasRecorded : (partition : ℕ) → Ended → (old new : WorldView) → Answer → Type 0
  HasRecorded partition ended old new answers.Recorded = OnlyCells old new × CellBecomes partition old.cells new.cells (RecordsAt rules ended records.Recorded)
  HasRecorded partition ended old new answers.NotPending = OnlyCells old new × CellBecomes partition old.cells new.cells (RecordsAt rules ended records.NotPending)
  HasRecorded partition ended old new answers.Memory = EndsLife old new
  HasRecorded partition ended old new other = ⊥

  abbrev pub HasTrimmed : (partition marks : ℕ) → (old new : WorldView) → Answer → Type 0
  HasTrimmed partition place old new (answers.Trimmed count) =
      OnlyCells old new × ((marks : Marks) × (slice_get old.marks place ≡ Some marks) × CellBecomes partition old.cells new.cells (TrimsAt rules marks count))
  HasTrimmed partition place old new answers.Memory = EndsLife old new
  HasTrimmed partition place old new other = ⊥

  -- the store hears of the moment too: what is committed from now on may be of it
  abbrev pub HasFired : (partition now : ℕ) → (old new : WorldView) → Answer → Type 0
  HasFired partition now old new (answers.Due count) =
      (new ≡ record old { store = record old.store { latest = max old.store.latest now }; cells = new.cells })
      × CellBecomes partition old.cells new.cells (λ c after. (after ≡ record c { now = max c.now now }) × CountsDue rules.flows rules.count (rules.begin c.number) c (max c.now now) count)
  HasFired partition now old new other = ⊥

  -- ---- a turn

  abbrev pub HasTurned : Mode → (partition limit : ℕ) → (old new : WorldView) → Answer → Type 0
  HasTurned mode partition limit old new (answers.Turned position) =
      (packets : List Packet) × OnlySends old new packets
      × CellBecomes partition old.cells new.cells (λ c after. (IsHeld mode c.entries → ⊥) × MakesEntry rules.flows rules.count (rules.begin c.number) mode limit c after position packets)
  HasTurned mode partition limit old new answers.Held = OnlyCells old new × CellBecomes partition old.cells new.cells (λ c after. IsHeld mode c.entries × (after ≡ c))
  HasTurned mode partition limit old new answers.Idle =
      OnlyCells old new × CellBecomes partition old.cells new.cells (λ c after. (IsHeld mode c.entries → ⊥) × IsIdle rules.flows rules.count (rules.begin c.number) c after)
  HasTurned mode partition limit old new (answers.Spent number) =
      OnlyCells old new × CellBecomes partition old.cells new.cells (λ c after. (IsHeld mode c.entries → ⊥) × IsSpent rules.flows rules.count (rules.begin c.number) c after number)
  HasTurned mode partition limit old new answers.Memory = EndsLife old new
  HasTurned mode partition limit old new other = ⊥

  -- ---- frames

  -- A partition's frame came to this stage, and nothing else changed but that the disk was asked.
  pub record MovesFrame (partition : ℕ) (old new : WorldView) (stage : Stage) : Type 0 where
    pub stage_is : new.store.stage partition ≡ stage
    pub frame : new.store.going partition ≡ old.store.going partition
    pub others : (other : ℕ) → other ≢ partition → (new.store.stage other ≡ old.store.stage other) × (new.store.going other ≡ old.store.going other)
    pub rest : new ≡ record old { store = record old.store { stage = new.store.stage; going = new.store.going }; way = new.way }

  abbrev pub HasWritten : (partition marks : ℕ) → (old new : WorldView) → Answer → Type 0
  HasWritten partition place old new answers.Written =
      (marks : Marks) × (slice_get old.marks place ≡ Some marks) × CellBecomes partition old.cells new.cells (λ c after. Writes rules partition marks old.store new.store c after (Ok true)) × SendsNothing old new
  HasWritten partition place old new answers.NoneReady =
      (marks : Marks) × (slice_get old.marks place ≡ Some marks) × CellBecomes partition old.cells new.cells (λ c after. Writes rules partition marks old.store new.store c after (Ok false)) × SendsNothing old new
  HasWritten partition place old new (answers.Full length) =
      (marks : Marks) × (slice_get old.marks place ≡ Some marks)
      × CellBecomes partition old.cells new.cells (λ c after. Writes rules partition marks old.store new.store c after (Err (body_refusals.Full partition length)) × IsFull rules partition marks c old.segment (old.way partition) length)
      × SendsNothing old new
  HasWritten partition place old new answers.SiteFault = EndsAs old new
  HasWritten partition place old new answers.Memory = EndsAs old new
  HasWritten partition place old new other = ⊥

  abbrev pub HasSynced : (partition : ℕ) → (old new : WorldView) → Answer → Type 0
  HasSynced partition old new answers.Synced = (old.store.stage partition ≡ stages.Bodied) × MovesFrame partition old new stages.Synced
  HasSynced partition old new answers.SiteFault = (old.store.stage partition ≡ stages.Bodied) × EndsAs old new
  HasSynced partition old new answers.Unmet = (old.store.stage partition ≢ stages.Bodied) × (new ≡ old)
  HasSynced partition old new other = ⊥

  -- the gate opens where all passes that the frame takes from others; else the first of it that doesn't is told
  abbrev pub HasGated : (partition : ℕ) → (old new : WorldView) → Answer → Type 0
  HasGated partition old new answers.Gated =
      (old.store.stage partition ≡ stages.Synced) × MovesFrame partition old new stages.Gated
      × ((going : List Entry) → old.store.going partition ≡ Some going → All (Passes (ledgers_at (ledgers rules) old.store.trail) old.store.floors partition) (items_in going))
  HasGated partition old new (answers.Refused why) =
      (old.store.stage partition ≡ stages.Synced) × (new ≡ old) × ((going : List Entry) × (old.store.going partition ≡ Some going) × RefusesFirst (ledgers_at (ledgers rules) old.store.trail) old.store.floors partition (items_in going) why)
  HasGated partition old new answers.SiteFault = (old.store.stage partition ≡ stages.Synced) × EndsAs old new
  HasGated partition old new answers.Unmet = (old.store.stage partition ≢ stages.Synced) × (new ≡ old)
  HasGated partition old new other = ⊥

  -- what is known of the logs now is known too
  abbrev pub MarksNow : (old new : WorldView) → Type 0
  MarksNow old new = (marks : Marks) × (new.marks ≡ old.marks ++ marks ∷ []) × AreMarksOf rules new.store marks

  abbrev pub HasSettledFrame : Mode → (partition : ℕ) → (old new : WorldView) → Answer → Type 0
  HasSettledFrame mode partition old new answers.Settled =
      (is_open (old.store.stage partition) ≡ true) × ((packets : Vec Packet Global) × (new.packets ≡ old.packets ++ packets.items)
      × CellBecomes partition old.cells new.cells (λ c after. SettlesFrame rules partition mode old.store new.store c after (Ok packets)) × MarksNow old new)
  HasSettledFrame mode partition old new answers.SiteFault = (is_open (old.store.stage partition) ≡ true) × EndsAs old new
  HasSettledFrame mode partition old new answers.Unmet = (is_open (old.store.stage partition) ≡ false) × (new ≡ old)
  HasSettledFrame mode partition old new answers.Memory = (is_open (old.store.stage partition) ≡ true) × (new.ended ≡ true) × ((c : CellView) × (slice_get old.cells partition ≡ Some c) × IsOnTrail partition old.store new.store c)
  HasSettledFrame mode partition old new other = ⊥

  -- ---- what is given up

  abbrev pub HasJudged : (partition marks : ℕ) → (old new : WorldView) → Answer → Type 0
  HasJudged partition place old new answers.Kept =
      OnlyCells old new × ((marks : Marks) × (slice_get old.marks place ≡ Some marks) × CellBecomes partition old.cells new.cells (λ c after. Judges rules partition marks old.store new.store c rewinds.Kept after))
  HasJudged partition place old new (answers.Rewound floor dep) =
      (marks : Marks) × (slice_get old.marks place ≡ Some marks)
      × CellBecomes partition old.cells new.cells (λ c after. Judges rules partition marks old.store new.store c (rewinds.Rewound floor dep) after) × MarksNow old new × (new.packets ≡ old.packets)
  HasJudged partition place old new (answers.Spent number) =
      OnlyCells old new × ((marks : Marks) × (slice_get old.marks place ≡ Some marks) × CellBecomes partition old.cells new.cells (λ c after. Judges rules partition marks old.store new.store c (rewinds.Spent number) after))
  HasJudged partition place old new answers.Memory = EndsAs old new
  HasJudged partition place old new other = ⊥

  -- ---- a node takes a partition over

  abbrev pub HasOwned : Mode → (partition node : ℕ) → (old new : WorldView) → Answer → Type 0
  HasOwned mode partition node old new answers.OwnedSettled =
      (packets : Vec Packet Global) × (new.packets ≡ old.packets ++ packets.items)
      × CellBecomes partition old.cells new.cells (TakesOver rules mode partition node old.store new.store (reopenings.Settled packets)) × MarksNow old new
  HasOwned mode partition node old new answers.OwnedDropped =
      (new.packets ≡ old.packets) × CellBecomes partition old.cells new.cells (TakesOver rules mode partition node old.store new.store reopenings.Dropped) × MarksNow old new
  HasOwned mode partition node old new (answers.Spent number) =
      (reopened : Reopened) × (new.packets ≡ old.packets ++ packets_in reopened) × CellBecomes partition old.cells new.cells (CantTakeOver rules mode partition old.store new.store reopened number) × MarksNow old new
  HasOwned mode partition node old new answers.SiteFault = EndsAs old new
  HasOwned mode partition node old new answers.Memory =
      (new.ended ≡ true) × ((new.store.trail ≡ old.store.trail) ⊎ ((c : CellView) × (slice_get old.cells partition ≡ Some c) × IsOnTrail partition old.store new.store c))
  HasOwned mode partition node old new other = ⊥

  -- ---- answers

  abbrev pub HasSaid : (name : List ℕ) → (number : ℕ) → (old new : WorldView) → Answer → Type 0
  HasSaid name number old new answers.Said =
      ((line : List ℕ) × (answer rules old.store.trail (asked name number) ≡ Some line)) × (new ≡ record old { store = record old.store { told = old.store.told ++ asked name number ∷ [] } })
  HasSaid name number old new answers.NotAnswered = (answer rules old.store.trail (asked name number) ≡ None) × (new ≡ old)
  HasSaid name number old new answers.SayFault = EndsAs old new
  HasSaid name number old new answers.Memory = EndsAs old new
  HasSaid name number old new other = ⊥

  -- ---- all events

  -- what an event that can happen makes of the world
  abbrev pub Makes : Mode → (old : WorldView) → Event → Answer → (new : WorldView) → Type 0
  Makes mode old (events.Submit message) result new = HasSubmitted (message_of message) old new result
  Makes mode old (events.Arrive partition packet) result new = HasArrived partition packet old new result
  Makes mode old (events.Turn partition limit) result new = HasTurned mode partition limit old new result
  Makes mode old (events.Body partition ago) result new = HasWritten partition (place_ago old.marks ago) old new result
  Makes mode old (events.SyncBody partition) result new = HasSynced partition old new result
  Makes mode old (events.Gate partition) result new = HasGated partition old new result
  Makes mode old (events.Settle partition) result new = HasSettledFrame mode partition old new result
  Makes mode old (events.Judge partition ago) result new = HasJudged partition (place_ago old.marks ago) old new result
  Makes mode old (events.Outcome partition ended) result new = HasRecorded partition ended old new result
  Makes mode old (events.Fire partition now) result new = HasFired partition now old new result
  Makes mode old (events.Trim partition ago) result new = HasTrimmed partition (place_ago old.marks ago) old new result
  Makes mode old (events.Stop node) result new = (result ≡ answers.Seen) × (new ≡ old)
  Makes mode old (events.Own partition node) result new = HasOwned mode partition node old new result
  Makes mode old (events.Say name number) result new = HasSaid name number old new result
  Makes mode old events.Image result new = (result ≡ answers.Seen) × (new ≡ old)

  -- An event that can't happen is Unmet and changes nothing, unless memory runs out where an outcome is looked at; any other makes of the world
  -- what its call does, which is never Unmet.
  pub record Happens (mode : Mode) (nodes : ℕ) (old : WorldView) (event : Event) (result : Answer) (new : WorldView) : Type 0 where
    pub unmet : is_unmet rules.count nodes old event ≡ true → ((result ≡ answers.Unmet) × (new ≡ old)) ⊎ ((is_outcome event ≡ true) × (result ≡ answers.Memory) × EndsLife old new)
    pub met : is_unmet rules.count nodes old event ≡ false → (result ≢ answers.Unmet) × Makes mode old event result new
