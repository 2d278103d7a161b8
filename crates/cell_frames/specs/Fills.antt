-- Which frame doesn't fit into its partition's log any more.
use Rattle.std.specs.Prelude.{◌≡◌, ◌<◌, ◌≤◌, ℕ, List, length as many}
use Rattle.dura_value.specs.Items.{Entry}
use Rattle.gated_store.specs.declared.local.Gated as gated_types
use Rattle.gated_store.specs.declared.store.GatedStore.{GatedStore}
use Rattle.hub_store.specs.Changes.{stage_at, trail_in, told_in}
use Rattle.hub_store.specs.Frames.{length_with}
use Rattle.hub_store.specs.Trail.{of_part}
use Rattle.hub_store.specs.Ways.{way_of}
use Rattle.hub_store.specs.declared.start.Start as starts
use Rattle.hub_store.specs.declared.way.Stage.TheVariants as stages
use Rattle.many_rules.specs.Makes.{Makes}
use Rattle.many_rules.specs.Rules.{Rules}
use Rattle.part_items.specs.Spelling.{CanSpellFrame}
use Rattle.site_model.specs.declared.site.Site as sites

-- No frame of the partition is under way. With this one, which can be spelled and which it may commit behind what is settled, its log would
-- have this length, which isn't below the segment's.
pub record WouldFill {V L : Type 0} {G : sites.Ghosts V} {K : starts.Ghosts (gated_types.Gated L)} (rules : Rules) (store : GatedStore V L G K) (partition length : ℕ) : Type 0 where
  pub frame : List Entry
  pub some : 0 < many frame
  pub spells : CanSpellFrame frame
  pub rests : stage_at store.logs partition ≡ stages.Resting
  pub makes : Makes rules store.logs.latest (of_part partition (trail_in store.logs)) (told_in store.logs) partition frame
  pub length_is : length ≡ length_with (way_of store.logs.ways.items partition) frame
  pub past : store.logs.segment ≤ length
