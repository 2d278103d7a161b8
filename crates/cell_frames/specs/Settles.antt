-- What settling a cell's frame changes.
use Rattle.std.specs.Prelude.{◌≡◌, ℕ, false, ◌++◌, take, Result, Ok, Err}
use Rattle.std.specs.declared.alloc.Global.{Global}
use Rattle.std.specs.declared.vec.Vec.{Vec}
use Rattle.cell_steps.specs.declared.mode.Mode.{Mode}
use Rattle.hub_store.specs.Trail.{settling}
use Rattle.hub_store.specs.Ways.{is_open}
use Rattle.hub_store.specs.declared.way.Stage.TheVariants as stages
use Rattle.log_items.specs.declared.items.Packet.{Packet}
use Rattle.many_rules.specs.Rules.{Rules}
use Rattle.spec_cell.specs.Sends.{SendsSettled}
use Rattle.spec_cell.specs.Views.{CellView, HasSettled}
use Rattle.cell_frames.specs.Joined.{StoreView}
use Rattle.cell_frames.specs.declared.settling.SettleRefusal.{SettleRefusal}
use Rattle.cell_frames.specs.declared.settling.SettleRefusal.TheVariants as refusals

-- The entries that were out are on the trail now, at one moment, and no frame of the partition is under way.
pub record IsOnTrail (partition : ℕ) (old new : StoreView) (c : CellView) : Type 0 where
  pub at : ℕ
  pub trail : new.trail ≡ old.trail ++ settling partition at (take c.out c.entries)
  pub rests : new.stage partition ≡ stages.Resting

-- The frame is settled, the cell's settled state moves on by it, and what its entries sent goes out, unless it did before; or no gate was
-- opened, and nothing changes; or the disk failed, and nothing is settled; or memory ran out behind it.
abbrev pub SettlesFrame : Rules → (partition : ℕ) → Mode → (old new : StoreView) → (c after : CellView) → Result (Vec Packet Global) SettleRefusal → Type 0
SettlesFrame rules partition mode old new c after (Ok packets) =
    IsOnTrail partition old new c × HasSettled c.out after.slot c after × SendsSettled rules.flows rules.count (rules.begin partition) mode c after packets.items × (new.floors ≡ old.floors)
SettlesFrame rules partition mode old new c after (Err refusals.NoFrame) = (is_open (old.stage partition) ≡ false) × (after ≡ c) × (new ≡ old)
SettlesFrame rules partition mode old new c after (Err refusals.SiteFault) = (after ≡ c) × (new.trail ≡ old.trail)
SettlesFrame rules partition mode old new c after (Err refusals.Memory) = IsOnTrail partition old new c
