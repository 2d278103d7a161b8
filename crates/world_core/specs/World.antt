-- The world in a life, as clauses see it.
use Rattle.std.specs.Prelude.{◌≡◌, ◌≤◌, ◌<◌, ℕ, Bool, false, List, length}
use Rattle.std.specs.List.{Contains}
use Rattle.cell_frames.specs.Joined.{StoreView, read_by, view_of}
use Rattle.gated_store.specs.declared.local.Gated as gated_types
use Rattle.gated_store.specs.declared.store.GatedStore.{GatedStore}
use Rattle.hub_store.specs.Ways.{way_of}
use Rattle.hub_store.specs.declared.start.Start as starts
use Rattle.hub_store.specs.declared.way.Way.{Way}
use Rattle.log_items.specs.declared.items.Packet.{Packet}
use Rattle.many_rules.specs.Rules.{Rules}
use Rattle.site_model.specs.declared.site.Site as sites
use Rattle.spec_cell.specs.Views.{CellView}
use Rattle.spec_tracker.specs.declared.marks.Marks.{Marks}
use Rattle.spec_tracker.specs.declared.marks.Read.{Read}
use Rattle.world_steps.specs.Cells.{AllJoined}

-- What the store has; whether one of its device calls failed, or a line was cut; the length below which logs stay, and how far each
-- partition's frame has come in its file; the cells; every packet that was sent; what was known of the logs, each time that it changed; and whether the life is over.
pub record WorldView : Type 0 where
  pub store : StoreView
  pub halted : Bool
  pub cut : Bool
  pub segment : ℕ
  pub way : ℕ → Way
  pub cells : List CellView
  pub packets : List Packet
  pub marks : List Marks
  pub ended : Bool

-- what a store brings to it
abbrev pub world : {V L : Type 0} {G : sites.Ghosts V} {K : starts.Ghosts (gated_types.Gated L)} → GatedStore V L G K → List CellView → List Packet → List Marks → Bool → WorldView
world store cells packets marks ended = record {
  store = view_of store;
  halted = store.logs.halted;
  cut = store.logs.cut;
  segment = store.logs.segment;
  way = way_of store.logs.ways.items;
  cells = cells;
  packets = packets;
  marks = marks;
  ended = ended;
}

-- ---- what holds of it

-- no more is told of what was read than was
abbrev pub AreHeard : Rules → StoreView → List Marks → Type 0
AreHeard rules s all = (marks : Marks) (read : Read) → Contains all marks → Contains marks.reads.items read → read.next ≤ read_by rules s read.source read.reader

-- There are 1 to 32 partitions, and a cell for each, whose entries may have as many items as the format has. While the life goes on no device call failed and no line was cut, and each cell is joined to the
-- store. What was ever known of the logs tells of no more reads than there were.
pub record Stands (rules : Rules) (w : WorldView) : Type 0 where
  pub some : 0 < rules.count
  pub few : rules.count ≤ 32
  pub most : 64 ≤ rules.most
  pub many : length w.cells ≡ rules.count
  pub going : w.ended ≡ false → w.halted ≡ false
  pub whole : w.ended ≡ false → w.cut ≡ false
  pub joined : w.ended ≡ false → AllJoined rules w.store w.cells
  pub heard : AreHeard rules w.store w.marks
