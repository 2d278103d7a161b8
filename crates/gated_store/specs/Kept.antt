-- What holds of a store between its calls.
use Rattle.std.specs.Prelude.{◌≡◌, ℕ, ◌<◌, true, List, ◌++◌, length, Option, Some, None, []}
use Rattle.std.specs.List.{Contains, slice_get}
use Rattle.site_model.specs.declared.site.Site as sites
use Rattle.dura_value.specs.Items.{Identity, Entry, Posted}
use Rattle.commit_gate.specs.declared.ledger.Ledger as declared
use Rattle.commit_gate.specs.Keeping.{IsSized, AreOfOne}
use Rattle.commit_gate.specs.Ledgers.{Ledger, IsKnown, after_items}
use Rattle.commit_gate.specs.Met.{AreMet}
use Rattle.commit_gate.specs.Unlost.{IsUnlost}
use Rattle.commit_gate.specs.Views.{floors_in, readers_in, ledger_of, whole_of}
use Rattle.hub_store.specs.Changes.{stage_at, going_at, trail_in, told_in}
use Rattle.hub_store.specs.Sound.{IsSound}
use Rattle.hub_store.specs.Trail.{Settled, Said, of_part, settling}
use Rattle.hub_store.specs.Ways.{is_tried}
use Rattle.hub_store.specs.declared.start.Start as starts
use Rattle.hub_store.specs.declared.way.Stage.{Stage}
use Rattle.gated_store.specs.declared.local.Gated as gated_types
use Rattle.gated_store.specs.declared.store.GatedStore.{GatedStore}
use Rattle.gated_store.specs.Follows.{ledgers_at, Follows}
use Rattle.log_items.specs.Readings.{readers_behind}
use Rattle.log_items.specs.Entries.{items_in}

-- with no frame under way nothing is to come, and with one it will make this of the partition
abbrev pub Comes : (ℕ → List Entry → Ledger) → (count partition : ℕ) → List Entry → declared.Ledger → Option (List Entry) → Type 0
Comes ledgers count partition mine ledger None = whole_of ledger ≡ ledger_of ledger
Comes ledgers count partition mine ledger (Some going) = AreOfOne count (items_in going) × (after_items (items_in going) (whole_of ledger) ≡ ledgers partition (mine ++ going))

-- how many entries are under way
abbrev pub count_under_way : Option (List Entry) → ℕ
count_under_way None = 0
count_under_way (Some going) = length going

-- A ledger shows what its partition's settled entries make, and who took in the last message of each stream; nothing that is settled or
-- under way was given up; and the frame under way leads on.
pub record LedgerFits (ledgers : ℕ → List Entry → Ledger) (readers : ℕ → ℕ → Identity) (count partition : ℕ) (mine : List Entry) (going : Option (List Entry)) (ledger : declared.Ledger) : Type 0 where
  pub sized : IsSized count ledger
  pub settled : ledger_of ledger ≡ ledgers partition mine
  pub comes : Comes ledgers count partition mine ledger going
  pub read : readers_in ledger ≡ readers_behind partition (readers partition) mine
  pub unlost : IsUnlost (whole_of ledger) (floors_in ledger)

-- a frame under way may be committed by its partition's own state
abbrev pub IsMade : (ℕ → List Entry → List Said → ℕ → List Entry → Type 0) → (latest : ℕ) → (mine : List Entry) → List Said → (partition : ℕ) → Option (List Entry) → Type 0
IsMade may_make latest mine told partition None = Unit {0}
IsMade may_make latest mine told partition (Some going) = may_make latest mine told partition going

-- and is met by what is settled
abbrev pub IsMetAt : (ℕ → List Entry → Ledger) → List Settled → (partition : ℕ) → Option (List Entry) → Type 0
IsMetAt ledgers trail partition None = Unit {0}
IsMetAt ledgers trail partition (Some going) = AreMet (ledgers_at ledgers trail) partition going

-- This was settled frame by frame, each of which might follow.
pub data Grown (ledgers : ℕ → List Entry → Ledger) (may_make : ℕ → List Entry → List Said → ℕ → List Entry → Type 0) : List Settled → Type 0 where
  nothing : Grown ledgers may_make []
  one_more : {trail : List Settled} (latest : ℕ) (told : List Said) (partition at : ℕ) (going : List Entry) → Grown ledgers may_make trail → Follows ledgers may_make latest trail told partition going → Grown ledgers may_make (trail ++ settling partition at going)

-- what streams held at the beginning was recovered
abbrev pub AreRecovered : (ℕ → List Entry → Ledger) → Type 0
AreRecovered ledgers = (partition target : ℕ) (posted : Posted) → Contains ((ledgers partition []).boxes target).messages posted → IsKnown (ledgers posted.entry.partition []) posted.entry

-- The ledgers fit what is settled and under way. Each frame under way was made by its partition's state, and one whose gate was tried is
-- met.
pub record Fits (count : ℕ) (ledgers : ℕ → List Entry → Ledger) (readers : ℕ → ℕ → Identity) (may_make : ℕ → List Entry → List Said → ℕ → List Entry → Type 0) (latest : ℕ) (trail : List Settled) (told : List Said) (going : ℕ → Option (List Entry)) (stage : ℕ → Stage) (list : List declared.Ledger) : Type 0 where
  pub many : length list ≡ count
  pub first : AreRecovered ledgers
  pub grown : Grown ledgers may_make trail
  pub each : (p : ℕ) (ledger : declared.Ledger) → slice_get list p ≡ Some ledger → LedgerFits ledgers readers count p (of_part p trail) (going p) ledger
  pub made : (p : ℕ) → p < count → IsMade may_make latest (of_part p trail) told p (going p)
  pub met : (p : ℕ) → p < count → is_tried (stage p) ≡ true → IsMetAt ledgers trail p (going p)

-- The logs are sound, and the ledgers fit.
pub record IsKept {V L : Type 0} {G : sites.Ghosts V} {K : starts.Ghosts (gated_types.Gated L)} (count : ℕ) (ledgers : ℕ → List Entry → Ledger) (readers : ℕ → ℕ → Identity) (may_make : ℕ → List Entry → List Said → ℕ → List Entry → Type 0) (store : GatedStore V L G K) : Type 0 where
  pub sound : IsSound store.logs
  pub fits : Fits count ledgers readers may_make store.logs.latest (trail_in store.logs) (told_in store.logs) (going_at store.logs) (stage_at store.logs) store.ledgers.items
