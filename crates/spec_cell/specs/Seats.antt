-- What a partition's seat shows of its place in the store.
use Rattle.std.specs.Prelude.{ℕ, List, Option}
use Rattle.dura_value.specs.Items.{Entry, Floor}
use Rattle.hub_store.specs.declared.way.Stage.{Stage}

-- Which seat it is (the store's own, or what stands for it while that is out), the entries that it has settled, those of the frame under way, how far that has come, and where the partition's later
-- incarnations began.
pub record Slot : Type 0 where
  pub token : ℕ
  pub mine : List Entry
  pub under_way : Option (List Entry)
  pub stage : Stage
  pub floors : List Floor
