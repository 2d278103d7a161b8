-- What no incarnation gave up.
use Rattle.std.specs.Prelude.{◌≡◌, ℕ, ◌+◌, ◌<◌, List, Some}
use Rattle.std.specs.List.{Contains, slice_get}
use Rattle.dura_value.specs.Items.{Entry, Floor}
use Rattle.commit_gate.specs.Ledgers.{Ledger}
use Rattle.commit_gate.specs.declared.ledger.Ledger as declared
use Rattle.commit_gate.specs.Views.{ledger_of, floors_in}

-- No incarnation gave up an entry that was recovered or settled.
abbrev pub IsUnlost : Ledger → List Floor → Type 0
IsUnlost ledger floors = (position incarnation : ℕ) → slice_get ledger.incarnations position ≡ Some incarnation → (floor : Floor) → Contains floors floor → incarnation < floor.incarnation → position < floor.from

-- nor one of a frame that goes on from this position
abbrev pub IsFrameUnlost : (position : ℕ) → List Floor → List Entry → Type 0
IsFrameUnlost position floors entries = (k : ℕ) (entry : Entry) → slice_get entries k ≡ Some entry → (floor : Floor) → Contains floors floor → entry.incarnation < floor.incarnation → position + k < floor.from

-- of each partition nothing that is settled was given up
abbrev pub AreUnlost : List declared.Ledger → Type 0
AreUnlost ledgers = (partition : ℕ) (ledger : declared.Ledger) → slice_get ledgers partition ≡ Some ledger → IsUnlost (ledger_of ledger) (floors_in ledger)
