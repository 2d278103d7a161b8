-- What a cell's frame is, as a store asks of it, and what writing it changes.
use Rattle.std.specs.Prelude.{◌≡◌, ◌≢◌, ◌≤◌, ◌+◌, ◌^◌, ℕ, Bool, true, false, List, ◌++◌, length as many, Result, Ok, Err}
use Rattle.std.specs.List.{All}
use Rattle.commit_gate.specs.Keeping.{GoesInside, AreOfOne}
use Rattle.commit_gate.specs.Ledgers.{log_length, after_frame}
use Rattle.commit_gate.specs.Unlost.{IsFrameUnlost}
use Rattle.commit_gate.specs.declared.ledger.Sending.{Sending}
use Rattle.dura_value.specs.Items.{Entry}
use Rattle.hub_store.specs.Frames.{goes_on, GoesBehind, length_with}
use Rattle.hub_store.specs.Origin.{Origin}
use Rattle.hub_store.specs.Trail.{of_part}
use Rattle.hub_store.specs.declared.refusal.BodyRefusal.{BodyRefusal}
use Rattle.hub_store.specs.declared.refusal.BodyRefusal.TheVariants as refusals
use Rattle.hub_store.specs.declared.way.Stage.TheVariants as stages
use Rattle.hub_store.specs.declared.way.Way.{Way}
use Rattle.log_items.specs.Entries.{items_in}
use Rattle.log_items.specs.Streams.{Sent}
use Rattle.many_rules.specs.Ledgers.{ledgers}
use Rattle.many_rules.specs.Makes.{Makes}
use Rattle.many_rules.specs.Rules.{Rules}
use Rattle.spec_cell.specs.Picks.{HasPicked, CantPick}
use Rattle.spec_cell.specs.Views.{CellView}
use Rattle.spec_tracker.specs.declared.marks.Marks.{Marks}
use Rattle.cell_frames.specs.Joined.{StoreView, Joined}

-- A frame may be written behind what is settled of its partition: it goes behind the log, its numbers have room, what it sends goes to
-- partitions that there are and what comes in is from such, its partition's state makes it and its sending makes of the ledger what its
-- entries do, and no incarnation gave it up.
pub record MayBeWritten (o : Origin) (rules : Rules) (s : StoreView) (partition : ℕ) (frame : List Entry) (sent : List Sent) : Type 0 where
  pub behind : GoesBehind (goes_on (o.logs partition) (of_part partition s.trail)) frame
  pub numbers : log_length (ledgers rules partition (of_part partition s.trail)) + many frame ≤ 2 ^ 62
  pub inside : All (GoesInside rules.count) sent
  pub fits : AreOfOne rules.count (items_in frame)
  pub may : Makes rules s.latest (of_part partition s.trail) s.told partition frame
  pub makes : ledgers rules partition (of_part partition s.trail ++ frame) ≡ after_frame (ledgers rules partition (of_part partition s.trail)) frame sent
  pub unlost : IsFrameUnlost (log_length (ledgers rules partition (of_part partition s.trail))) (s.floors partition) frame

-- What joins the cells of the other partitions to the store stays.
abbrev pub KeepsOthers : Rules → (partition : ℕ) → (old new : StoreView) → Type 0
KeepsOthers rules partition old new = (other : ℕ) → other ≢ partition → (c : CellView) → Joined rules old other c → Joined rules new other c

-- The first entries of the cell that may go are out and under way, nothing was settled, and no incarnation began.
pub record HasWritten (rules : Rules) (partition : ℕ) (marks : Marks) (old new : StoreView) (c after : CellView) : Type 0 where
  pub frame : List Entry
  pub sending : List Sending
  pub picked : HasPicked rules.flows rules.count (rules.begin partition) marks c frame sending after
  pub trail : new.trail ≡ old.trail
  pub floors : new.floors ≡ old.floors

-- nothing changed in the cell, nothing was settled, and no incarnation began
abbrev pub IsUnwritten : (old new : StoreView) → (c after : CellView) → Type 0
IsUnwritten old new c after = (after ≡ c) × (new.trail ≡ old.trail) × (new.floors ≡ old.floors)

-- A frame is written, and its body isn't safe yet; or none may go, and nothing changes; or it isn't written, and comes back; or the disk failed,
-- and how much of it was written isn't known.
abbrev pub Writes : Rules → (partition : ℕ) → Marks → (old new : StoreView) → (c after : CellView) → Result Bool BodyRefusal → Type 0
Writes rules partition marks old new c after (Ok true) = HasWritten rules partition marks old new c after × (new.stage partition ≡ stages.Bodied)
Writes rules partition marks old new c after (Ok false) = CantPick rules.flows rules.count (rules.begin partition) marks c after × (new ≡ old)
Writes rules partition marks old new c after (Err (refusals.Full at length)) = (at ≡ partition) × IsUnwritten old new c after
Writes rules partition marks old new c after (Err refusals.SiteFault) = HasWritten rules partition marks old new c after × (new.stage partition ≡ stages.BrokenBody)
Writes rules partition marks old new c after (Err refusals.Memory) = IsUnwritten old new c after

-- With the frame that the cell picks its partition's log would have this length, which isn't below the segment's.
pub record IsFull (rules : Rules) (partition : ℕ) (marks : Marks) (c : CellView) (segment : ℕ) (way : Way) (length : ℕ) : Type 0 where
  pub frame : List Entry
  pub sending : List Sending
  pub picked_by : CellView
  pub picked : HasPicked rules.flows rules.count (rules.begin partition) marks c frame sending picked_by
  pub length_is : length ≡ length_with way frame
  pub past : segment ≤ length
