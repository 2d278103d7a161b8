-- What opening a partition's log again changes, and what giving up all that its cell holds does.
use Rattle.std.specs.Prelude.{◌≡◌, ℕ, Result, Ok, Err}
use Rattle.cell_frames.specs.Beginning.{BeginsAt}
use Rattle.cell_frames.specs.Joined.{StoreView}
use Rattle.cell_frames.specs.Settles.{IsOnTrail}
use Rattle.cell_frames.specs.Unlost.{floor_of}
use Rattle.cell_frames.specs.declared.owning.Reopened.{Reopened}
use Rattle.cell_frames.specs.declared.owning.Reopened.TheVariants as reopenings
use Rattle.cell_frames.specs.declared.settling.SettleRefusal.{SettleRefusal}
use Rattle.cell_frames.specs.declared.settling.SettleRefusal.TheVariants as refusals
use Rattle.cell_steps.specs.declared.mode.Mode.{Mode}
use Rattle.hub_store.specs.declared.way.Stage.TheVariants as stages
use Rattle.many_rules.specs.Rules.{Rules}
use Rattle.spec_cell.specs.Moves.{CellResets}
use Rattle.spec_cell.specs.Sends.{SendsSettled}
use Rattle.spec_cell.specs.Views.{CellView, HasSettled}
use Rattle.spec_cell.specs.declared.moving.CellReset.{CellReset}
use Rattle.spec_cell.specs.declared.moving.CellReset.TheVariants as resets

-- A frame whose gate was tried, and which reads open, is settled, and the cell's settled state moves on by it; else none is under way, and
-- nothing is settled; or the disk failed, and nothing is settled; or memory ran out behind a settled frame.
abbrev pub Opens : Rules → (partition : ℕ) → Mode → (old new : StoreView) → (c : CellView) → Result Reopened SettleRefusal → (after : CellView) → Type 0
Opens rules partition mode old new c (Ok (reopenings.Settled packets)) after =
    IsOnTrail partition old new c × HasSettled c.out after.slot c after × SendsSettled rules.flows rules.count (rules.begin partition) mode c after packets.items × (new.floors ≡ old.floors)
Opens rules partition mode old new c (Ok reopenings.Dropped) after = (new.stage partition ≡ stages.Resting) × (new.trail ≡ old.trail) × (after ≡ record c { out = 0 }) × (new.floors ≡ old.floors)
Opens rules partition mode old new c (Err refusals.NoFrame) after = ⊥
Opens rules partition mode old new c (Err refusals.SiteFault) after = (after ≡ c) × (new.trail ≡ old.trail)
Opens rules partition mode old new c (Err refusals.Memory) after = IsOnTrail partition old new c

-- what the store has of a partition's incarnations once the cell gave all up: one more that begins there
abbrev pub KnowsReset : (partition floor : ℕ) → (old new : StoreView) → CellReset → (after : CellView) → Type 0
KnowsReset partition floor old new resets.Done after = BeginsAt partition (floor_of after floor) old new
KnowsReset partition floor old new (resets.Spent number) after = new ≡ old

-- All that the cell holds is given up, and the store knows of it.
abbrev pub GivesUp : (partition floor : ℕ) → (old new : StoreView) → (c : CellView) → CellReset → (after : CellView) → Type 0
GivesUp partition floor old new c reset after = CellResets floor c reset after × KnowsReset partition floor old new reset after
