-- Why a call goes on no more.
use Rattle.std.specs.Prelude.{◌≡◌, ◌⊎◌, ℕ, ◌≤◌, ◌+◌, ◌^◌, List, Some, slice_get}
use Rattle.cell_frames.specs.Fills.{WouldFill}
use Rattle.cell_frames.specs.Joined.{StoreView, Joined, view_of}
use Rattle.dura_model.specs.Partition.{Partition}
use Rattle.gated_store.specs.declared.local.Gated as gated_types
use Rattle.gated_store.specs.declared.store.GatedStore.{GatedStore}
use Rattle.hub_store.specs.declared.start.Start as starts
use Rattle.many_rules.specs.Rules.{Rules}
use Rattle.node_core.specs.declared.halt.Halt.{Halt}
use Rattle.node_core.specs.declared.halt.Halt.TheVariants as halts
use Rattle.site_model.specs.Calls.{HasRisen}
use Rattle.site_model.specs.declared.site.Site as sites
use Rattle.spec_cell.specs.Views.{CellView, IsAhead}
use Rattle.world_steps.specs.Cells.{AllJoined}

-- a fault of the disk or the tape comes only where its count rose
abbrev pub RisesFor : (disk say disk_then say_then : ℕ) → Halt → Type 0
RisesFor disk say disk_then say_then halts.SiteFault = HasRisen disk disk_then
RisesFor disk say disk_then say_then halts.SayFault = HasRisen say say_then
RisesFor disk say disk_then say_then other = Unit {0}

-- what a cell comes to next: the position of the entry behind all that it has, its incarnation, or the one that would begin
abbrev pub ComesTo : Rules → CellView → (number : ℕ) → Type 0
ComesTo rules c number = ((ahead : Partition) × IsAhead rules.flows rules.count (rules.begin c.number) c ahead × (number ≡ ahead.position)) ⊎ ((number ≡ c.incarnation) ⊎ (number ≡ c.incarnation + 1))

-- Such a number of a partition's cell, which goes on from what the store has settled, is past the last that the format has.
pub record IsSpent (rules : Rules) (s : StoreView) (cells : List CellView) (partition number : ℕ) : Type 0 where
  pub cell : CellView
  pub there : slice_get cells partition ≡ Some cell
  pub joined : Joined rules s partition cell
  pub comes : ComesTo rules cell number
  pub past : 2 ^ 62 ≤ number

-- a log is full only where a frame that may be committed would bring it to this length, which isn't below the segment's; and numbers are
-- spent only where a cell comes to this one
abbrev pub IsPast : {V L : Type 0} {G : sites.Ghosts V} {K : starts.Ghosts (gated_types.Gated L)} → Rules → GatedStore V L G K → List CellView → Halt → Type 0
IsPast rules store cells (halts.Full partition length) = WouldFill rules store partition length
IsPast rules store cells (halts.Spent partition number) = IsSpent rules (view_of store) cells partition number
IsPast rules store cells other = Unit {0}

-- why a call that says nothing halts
abbrev pub IsSilent : Halt → Type 0
IsSilent halts.SayFault = ⊥
IsSilent halts.ClockFault = ⊥
IsSilent other = Unit {0}

-- why what is done with cells alone, which were joined to a store, halts
abbrev pub IsInner : Rules → (old new : List CellView) → Halt → Type 0
IsInner rules old new (halts.Spent partition number) = (s : StoreView) → AllJoined rules s old → IsSpent rules s new partition number
IsInner rules old new halts.Memory = Unit {0}
IsInner rules old new other = ⊥
