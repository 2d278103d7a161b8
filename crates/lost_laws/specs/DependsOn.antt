-- Which entries an entry depends on, through any number of entries between.
use Rattle.std.specs.Prelude.{◌≡◌, ◌⊎◌, ℕ, List}
use Rattle.std.specs.List.{Contains}
use Rattle.commit_gate.specs.Ledgers.{Ledger}
use Rattle.dura_value.specs.Dependencies.{named_by, IsRightBefore, Lost}
use Rattle.dura_value.specs.Items.{Floor, Identity}
use Rattle.gated_store.specs.Causal.{identity_of, IsThere}
use Rattle.hub_store.specs.Trail.{Settled}

-- An entry of the trail depends on each that its items name, and on the one right before it in its partition, whether that was recovered or is
-- on the trail; and on all that these depend on.
pub data DependsOn (begin : ℕ → Ledger) (trail : List Settled) : Identity → Identity → Type 0 where
  named : (one : Settled) (d : Identity) → Contains trail one → Contains (named_by one.entry.items) d → DependsOn begin trail (identity_of one) d
  before : (one : Settled) (d : Identity) → Contains trail one → IsThere begin trail d → IsRightBefore d (identity_of one) → DependsOn begin trail (identity_of one) d
  further : (e d f : Identity) → DependsOn begin trail e d → DependsOn begin trail d f → DependsOn begin trail e f

-- neither the entry nor any that it depends on was given up, by these floors of the partitions
abbrev pub NoneLost : (begin : ℕ → Ledger) → List Settled → (floors : ℕ → List Floor) → Identity → Type 0
NoneLost begin trail floors e = (d : Identity) → (d ≡ e) ⊎ DependsOn begin trail e d → Lost (floors d.partition) d → ⊥
