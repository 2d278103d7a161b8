-- What each call keeps.
use Rattle.std.specs.Prelude.{◌≡◌, ℕ, ◌+◌, ◌-◌, ◌^◌, min}
use Rattle.site_model.specs.declared.site.Site as sites
use Rattle.commit_gate.specs.Views.{floors_of}
use Rattle.hub_store.specs.Changes.{KeepsStore}
use Rattle.hub_store.specs.declared.start.Start as starts
use Rattle.hub_store.specs.declared.way.Stage.{Stage}
use Rattle.hub_store.specs.declared.way.Stage.TheVariants as stages
use Rattle.gated_store.specs.declared.local.Gated as gated_types
use Rattle.gated_store.specs.declared.store.GatedStore.{GatedStore}

-- a turn further; the count of turns stops before it is too great for its field
abbrev pub turned : ℕ → ℕ
turned turns = min (turns + 1) (2 ^ 64 - 1)

-- a frame that is settled makes a turn, unless its open gate was made safe before
abbrev pub turned_by : Stage → ℕ → ℕ
turned_by stages.Gated turns = turned turns
turned_by other turns = turns

-- a call on the frame of a partition keeps what the logs do, and all floors
pub record KeepsGate {V L : Type 0} {G : sites.Ghosts V} {K : starts.Ghosts (gated_types.Gated L)} (partition : ℕ) (old new : GatedStore V L G K) : Type 0 where
  pub logs : KeepsStore partition old.logs new.logs
  pub floors : floors_of new.ledgers.items ≡ floors_of old.ledgers.items
