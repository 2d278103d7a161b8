-- How a store of the two stands between the calls of a run.
use Rattle.std.specs.Prelude.{◌≡◌, ◌≤◌, ◌^◌, ℕ, Bool, true, false, List, [], ◌∷◌, length, map, Option, Some, None}
use Rattle.std.specs.List.{All, slice_get}
use Rattle.site_model.specs.declared.site.Site as sites
use Rattle.dura_value.specs.Items.{Identity, Entry}
use Rattle.log_items.specs.Entries.{items_in}
use Rattle.log_items.specs.Streams.{Sent}
use Rattle.commit_gate.specs.Keeping.{IsSized, GoesInside, AreOfOne}
use Rattle.commit_gate.specs.Ledgers.{log_length, after_frame}
use Rattle.commit_gate.specs.Views.{nobody, no_box, box_of, whole_box, no_ledger, ledger_of, whole_of, readers_in, floors_in, floors_of}
use Rattle.commit_gate.specs.declared.ledger.Ledger.{Ledger}
use Rattle.commit_gate.specs.declared.ledger.Stream.{Stream}
use Rattle.gated_store.specs.declared.local.Gated as gated_types
use Rattle.gated_store.specs.declared.store.GatedStore.{GatedStore}
use Rattle.gated_store.specs.Follows.{GoesOnThere}
use Rattle.gated_store.specs.Kept.{IsKept}
use Rattle.hub_store.specs.Changes.{stage_at, trail_in}
use Rattle.hub_store.specs.Frames.{GoesBehind}
use Rattle.hub_store.specs.Trail.{Said, of_part}
use Rattle.hub_store.specs.declared.start.Start as starts
use Rattle.hub_store.specs.declared.way.Stage.TheVariants.{Resting}
use Rattle.crossing_tests.specs.Crossing.{ledgers}

-- nobody had taken in anything
abbrev pub readers : (partition source : ℕ) → Identity
readers partition source = nobody

-- a partition may commit what goes on where it stands
abbrev pub may_make : (latest : ℕ) → List Entry → List Said → (partition : ℕ) → List Entry → Type 0
may_make latest mine told partition going = GoesOnThere ledgers mine partition going

-- nothing is left of the streams to both
pub record AreNone (list : List Stream) : Type 0 where
  pub many : length list ≡ 2
  pub settled : map box_of list ≡ no_box ∷ no_box ∷ []
  pub whole : map whole_box list ≡ no_box ∷ no_box ∷ []

-- of an empty partition this is what others see
pub record IsEmpty (ledger : Ledger) : Type 0 where
  pub sized : IsSized 2 ledger
  pub settled : ledger_of ledger ≡ no_ledger
  pub whole : whole_of ledger ≡ ledger_of ledger
  pub read : readers_in ledger ≡ (λ source. nobody)
  pub floors : floors_in ledger ≡ []

-- and of two of them
pub record AreEmpty (list : List Ledger) : Type 0 where
  pub many : length list ≡ 2
  pub each : (partition : ℕ) (ledger : Ledger) → slice_get list partition ≡ Some ledger → IsEmpty ledger

-- an empty partition may write these entries, which send this
pub record MayWrite (partition : ℕ) (going : List Entry) (sent : List Sent) : Type 0 where
  pub behind : GoesBehind (record { position = 0; incarnation = 0 }) going
  pub few : length going ≤ 2 ^ 62
  pub inside : All (GoesInside 2) sent
  pub fits : AreOfOne 2 (items_in going)
  pub empty : log_length (ledgers partition []) ≡ 0
  pub goes : GoesOnThere ledgers [] partition going
  pub makes : ledgers partition going ≡ after_frame (ledgers partition []) going sent

module _ {V L : Type 0} {G : sites.Ghosts V} {K : starts.Ghosts (gated_types.Gated L)} where
  -- a partition has no frame, neither under way nor settled; or it has one, and this is whether it is settled
  abbrev pub IsThere : GatedStore V L G K → (partition : ℕ) → Option Bool → Type 0
  IsThere store partition None = (stage_at store.logs partition ≡ Resting) × (of_part partition (trail_in store.logs) ≡ [])
  IsThere store partition (Some false) = of_part partition (trail_in store.logs) ≡ []
  IsThere store partition (Some true) = Unit {0}

  -- no line was cut, no entry was given up, and each partition is there
  pub record Stands (store : GatedStore V L G K) (places : List (Option Bool)) : Type 0 where
    pub kept : IsKept 2 ledgers readers may_make store
    pub whole : store.logs.cut ≡ false
    pub floors : (partition : ℕ) → floors_of store.ledgers.items partition ≡ []
    pub each : (partition : ℕ) (place : Option Bool) → slice_get places partition ≡ Some place → IsThere store partition place
