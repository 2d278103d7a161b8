-- What a call begins with.
use Rattle.std.specs.Prelude.{◌≡◌, ◌≤◌, ◌<◌, ◌^◌, ℕ, Bool, true, false, List, [], length, slice_index_or, Some}
use Rattle.std.specs.List.{slice_get}
use Rattle.cell_frames.specs.Joined.{StoreView, Joined}
use Rattle.commit_gate.specs.Views.{floors_of}
use Rattle.commit_gate.specs.declared.ledger.Ledger.{Ledger}
use Rattle.flow_syntax.specs.Syntax.{Flows}
use Rattle.gated_store.specs.declared.local.Gated as gated_types
use Rattle.gated_store.specs.declared.store.GatedStore.{GatedStore}
use Rattle.hub_store.specs.Changes.{stage_at, trail_in, told_in}
use Rattle.hub_store.specs.declared.start.Start as starts
use Rattle.hub_store.specs.declared.way.Stage.TheVariants as stages
use Rattle.many_logs.specs.Placing.{Commit}
use Rattle.many_rules.specs.Rules.{Rules}
use Rattle.open_logs.specs.declared.begun.Begun.{Begun}
use Rattle.part_steps.specs.States.{AreStatesOfAll, parts_in}
use Rattle.part_steps.specs.declared.state.PartState.{PartState}
use Rattle.request_reader.specs.Line.{Request}
use Rattle.site_model.specs.declared.site.Site as sites
use Rattle.spec_cell.specs.Views.{CellView}
use Rattle.state_ledgers.specs.Ledger.{IsLedgerOf}

-- ---- the rules

-- the rules of a call from what was recovered on, whose entries were accepted in this order: the moment that the clock gave first, how many
-- items an entry may have, what clients ask, and whether it serves them
abbrev pub call_rules : Flows → (count : ℕ) → Begun → List Commit → (since most : ℕ) → List Request → (serves : Bool) → Rules
call_rules flows count begun run since most requests serves = record {
  flows = flows;
  count = count;
  recovered = run;
  begin = parts_in begun.states.items;
  incarnations = λ partition. slice_index_or begun.incarnations.items partition 0;
  since = since;
  most = most;
  requests = requests;
  serves = serves;
}

-- The call goes on from these states, in these incarnations, which are not before those of the states.
pub record BeginsWith (rules : Rules) (states : List PartState) (incarnations : List ℕ) : Type 0 where
  pub some : 0 < rules.count
  pub few : rules.count ≤ 32
  pub all : AreStatesOfAll states
  pub many : length states ≡ rules.count
  pub numbers : length incarnations ≡ rules.count
  pub begin : rules.begin ≡ parts_in states
  pub from : (partition incarnation : ℕ) → slice_get incarnations partition ≡ Some incarnation → rules.incarnations partition ≡ incarnation
  pub young : (partition incarnation : ℕ) → slice_get incarnations partition ≡ Some incarnation → incarnation < 2 ^ 62
  pub younger : (partition incarnation : ℕ) → slice_get incarnations partition ≡ Some incarnation → (parts_in states partition).incarnation ≤ incarnation

-- ---- the store

-- of each partition it shows the state, whose entries are of these incarnations
abbrev pub AreLedgersOf : (count : ℕ) → List PartState → List (List ℕ) → List Ledger → Type 0
AreLedgersOf count states pasts ledgers = (partition : ℕ) (ledger : Ledger) (past : List ℕ) → slice_get ledgers partition ≡ Some ledger → slice_get pasts partition ≡ Some past → IsLedgerOf count (parts_in states partition) past ledger

-- Nothing was settled or said, no frame is under way, no entry was given up, no device call failed and no line was cut.
pub record IsUntouched {V L : Type 0} {G : sites.Ghosts V} {K : starts.Ghosts (gated_types.Gated L)} (count : ℕ) (store : GatedStore V L G K) : Type 0 where
  pub trail : trail_in store.logs ≡ []
  pub told : told_in store.logs ≡ []
  pub rest : (partition : ℕ) → partition < count → stage_at store.logs partition ≡ stages.Resting
  pub floors : (partition : ℕ) → floors_of store.ledgers.items partition ≡ []
  pub going : store.logs.halted ≡ false
  pub whole : store.logs.cut ≡ false

-- ---- the cells

-- The cell of this partition has a state, and makes entries in this incarnation, from this moment on. It has settled nothing, holds nothing,
-- and nothing waits.
pub record IsBegun (partition incarnation since : ℕ) (c : CellView) : Type 0 where
  pub number : c.number ≡ partition
  pub going : c.going ≡ true
  pub mine : c.slot.mine ≡ []
  pub entries : c.entries ≡ []
  pub incarnation_is : c.incarnation ≡ incarnation
  pub waits : c.waits ≡ []
  pub now : c.now ≡ since
  pub out : c.out ≡ 0

-- and so it is with each of these
abbrev pub AllBegun : (incarnations : List ℕ) → (since : ℕ) → List CellView → Type 0
AllBegun incarnations since cells = (partition : ℕ) (c : CellView) → slice_get cells partition ≡ Some c → (incarnation : ℕ) × (slice_get incarnations partition ≡ Some incarnation) × IsBegun partition incarnation since c

-- each cell has a state, and is joined to the store
abbrev pub AllJoined : Rules → StoreView → List CellView → Type 0
AllJoined rules s cells = (partition : ℕ) (c : CellView) → slice_get cells partition ≡ Some c → (c.going ≡ true) × Joined rules s partition c
