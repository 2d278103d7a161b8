-- What may be committed where there are many partitions: what may be by its own partition's state, and is met by the others'.
use Rattle.std.specs.Prelude.{ℕ, List, ◌++◌}
use Rattle.dura_value.specs.Items.{Entry}
use Rattle.commit_gate.specs.Ledgers.{Ledger}
use Rattle.commit_gate.specs.Local.{GoesOn}
use Rattle.commit_gate.specs.Met.{AreMet}
use Rattle.hub_store.specs.Trail.{Settled, Said, of_part}
use Rattle.log_items.specs.Streams.{Sent}

-- what others see of each partition, once this was settled
abbrev pub ledgers_at : (ℕ → List Entry → Ledger) → List Settled → ℕ → Ledger
ledgers_at ledgers trail partition = ledgers partition (of_part partition trail)

pub record Follows (ledgers : ℕ → List Entry → Ledger) (may_make : ℕ → List Entry → List Said → ℕ → List Entry → Type 0) (latest : ℕ) (trail : List Settled) (told : List Said) (partition : ℕ) (going : List Entry) : Type 0 where
  -- by the partition's own state
  pub makes : may_make latest (of_part partition trail) told partition going
  -- by the others'
  pub met : AreMet (ledgers_at ledgers trail) partition going

-- a frame that goes on where its partition stands, with something that it sends
abbrev pub GoesOnThere : (ℕ → List Entry → Ledger) → (mine : List Entry) → (partition : ℕ) → List Entry → Type 0
GoesOnThere ledgers mine partition going = (sent : List Sent) × GoesOn partition (ledgers partition mine) going sent (ledgers partition (mine ++ going))
