-- What a cell and the store know of one partition.
use Rattle.std.specs.Prelude.{◌≡◌, ◌<◌, ◌≤◌, ℕ, List, take, true, Option, Some, None}
use Rattle.cell_frames.specs.Fresh.{IsFresh}
use Rattle.cell_frames.specs.Ours.{AreOurs, WaitOurs}
use Rattle.cell_frames.specs.Unlost.{HoldsUnlost}
use Rattle.commit_gate.specs.Ledgers.{log_length}
use Rattle.commit_gate.specs.Views.{floors_of}
use Rattle.dura_value.specs.Items.{Entry, Floor}
use Rattle.gated_store.specs.declared.local.Gated as gated_types
use Rattle.gated_store.specs.declared.store.GatedStore.{GatedStore}
use Rattle.hub_store.specs.Changes.{stage_at, going_at, trail_in, told_in}
use Rattle.hub_store.specs.Trail.{Settled, Said, of_part}
use Rattle.hub_store.specs.declared.start.Start as starts
use Rattle.hub_store.specs.declared.way.Stage.{Stage}
use Rattle.hub_store.specs.declared.way.Stage.TheVariants as stages
use Rattle.many_rules.specs.Ledgers.{ledgers}
use Rattle.many_rules.specs.Rules.{Rules}
use Rattle.site_model.specs.declared.site.Site as sites
use Rattle.spec_cell.specs.Views.{CellView}
use Rattle.cell_frames.specs.TrimsRead.{TrimsRead}

-- What a store has, as those see it who commit by it: the latest moment, what was settled and said, of each partition the frame under
-- way and how far it has come, and where later incarnations began.
pub record StoreView : Type 0 where
  pub latest : ℕ
  pub trail : List Settled
  pub told : List Said
  pub going : ℕ → Option (List Entry)
  pub stage : ℕ → Stage
  pub floors : ℕ → List Floor

abbrev pub view_of : {V L : Type 0} {G : sites.Ghosts V} {K : starts.Ghosts (gated_types.Gated L)} → GatedStore V L G K → StoreView
view_of store = record {
  latest = store.logs.latest;
  trail = trail_in store.logs;
  told = told_in store.logs;
  going = going_at store.logs;
  stage = stage_at store.logs;
  floors = floors_of store.ledgers.items;
}

-- how far another partition has taken in a partition's stream, by what is settled
abbrev pub read_by : Rules → StoreView → (partition reader : ℕ) → ℕ
read_by rules s partition reader = (ledgers rules reader (of_part reader s.trail)).nexts partition

-- The first entries that a cell holds are out just where they are under way.
pub record IsOut (s : StoreView) (partition : ℕ) (c : CellView) : Type 0 where
  pub rests : c.out ≡ 0 → (s.stage partition ≡ stages.Resting) × (s.going partition ≡ None)
  pub goes : 0 < c.out → s.going partition ≡ Some (take c.out c.entries)

-- The cell of a partition goes on from what the store has settled of it. What it holds and what waits there is the call's, is of no later
-- moment than the store heard of, and was not given up; it was handed the moment at which the call began, or a later one, and where the call
-- serves clients the latest, and holds nothing from before that; and it lets go of no more than was read.
pub record GoesOnFrom (rules : Rules) (s : StoreView) (partition : ℕ) (c : CellView) : Type 0 where
  pub number : c.number ≡ partition
  pub mine : c.slot.mine ≡ of_part partition s.trail
  pub ours : AreOurs rules s.latest s.told c
  pub waits : WaitOurs rules s.told c
  pub of_call : rules.incarnations partition ≤ c.incarnation
  pub since : rules.since ≤ c.now
  pub timely : c.now ≤ s.latest
  pub fresh : rules.serves ≡ true → IsFresh s.latest c
  pub unlost : HoldsUnlost (log_length (ledgers rules partition (of_part partition s.trail))) (s.floors partition) c
  pub read : TrimsRead (read_by rules s partition) c

-- and what is out of it is under way
pub record Joined (rules : Rules) (s : StoreView) (partition : ℕ) (c : CellView) : Type 0 where
  pub goes : GoesOnFrom rules s partition c
  pub out : IsOut s partition c
