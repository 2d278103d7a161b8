-- What holds of the store and the cells of a call between its steps.
use Rattle.std.specs.Prelude.{◌≡◌, ◌≤◌, ◌<◌, ℕ, false, true, List, length, take, Some}
use Rattle.std.specs.List.{slice_get}
use Rattle.cell_frames.specs.Begun.{HasBegun}
use Rattle.cell_frames.specs.Joined.{view_of}
use Rattle.gated_store.specs.Kept.{IsKept}
use Rattle.gated_store.specs.declared.local.Gated as gated_types
use Rattle.gated_store.specs.declared.store.GatedStore.{GatedStore}
use Rattle.hub_store.specs.Origin.{Origin}
use Rattle.hub_store.specs.declared.start.Start as starts
use Rattle.many_rules.specs.Ledgers.{ledgers, readers}
use Rattle.many_rules.specs.Makes.{Makes}
use Rattle.many_rules.specs.Rules.{Rules}
use Rattle.site_model.specs.declared.site.Site as sites
use Rattle.spec_cell.specs.Views.{CellView}
use Rattle.world_steps.specs.Cells.{AllJoined}

-- what was committed may be, and the gates of frames compare, whatever came
abbrev pub Keeps : {V L : Type 0} {G : sites.Ghosts V} {K : starts.Ghosts (gated_types.Gated L)} → Origin → Rules → GatedStore V L G K → Type 0
Keeps o rules store = IsKept o.count (ledgers rules) (readers rules) (Makes rules) store

-- the frame that is out of each has at most 64 entries
abbrev pub HaveShortFrames : List CellView → Type 0
HaveShortFrames cells = (partition : ℕ) (c : CellView) → slice_get cells partition ≡ Some c → length (take c.out c.entries) ≤ 64

-- The call goes on: it began by its rules, by which it serves clients, there are 1 to 32 partitions and a cell for each, whose frames have at
-- most 64 entries, the store is kept, no device call failed, no line was cut, and each cell is joined to the store.
pub record IsRunning {V L : Type 0} {G : sites.Ghosts V} {K : starts.Ghosts (gated_types.Gated L)} (o : Origin) (rules : Rules) (store : GatedStore V L G K) (cells : List CellView) : Type 0 where
  pub begun : HasBegun o rules
  pub serves : rules.serves ≡ true
  pub some : 0 < rules.count
  pub few : rules.count ≤ 32
  pub many : length cells ≡ rules.count
  pub short : HaveShortFrames cells
  pub kept : Keeps o rules store
  pub still : store.logs.halted ≡ false
  pub whole : store.logs.cut ≡ false
  pub joined : AllJoined rules (view_of store) cells
