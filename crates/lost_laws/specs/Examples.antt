-- A trail of three entries, by example.
use Rattle.std.specs.Prelude.{ℕ, zero, suc, List, [], ◌∷◌, codes}
use Rattle.commit_gate.specs.Ledgers.{Ledger}
use Rattle.commit_gate.specs.Views.{no_ledger}
use Rattle.dura_value.specs.Ids.{client}
use Rattle.dura_value.specs.Items.{Floor, got}
use Rattle.dura_value.specs.Messages.{Message, release}
use Rattle.gated_store.specs.Causal.{identity_of}
use Rattle.hub_store.specs.Trail.{Settled}

-- some message
abbrev pub message : Message
message = record { from = client (codes "a"); to = client (codes "b"); body = release }

-- an entry of partition 0 sends it
abbrev pub first : Settled
first = record { partition = 0; entry = record { position = 0; incarnation = 0; items = [] }; at = 0 }

-- one of partition 1 takes it in
abbrev pub second : Settled
second = record { partition = 1; entry = record { position = 0; incarnation = 0; items = got (identity_of first) 0 message ∷ [] }; at = 1 }

-- and one stands right behind that
abbrev pub third : Settled
third = record { partition = 1; entry = record { position = 1; incarnation = 0; items = [] }; at = 2 }

abbrev pub three : List Settled
three = first ∷ second ∷ third ∷ []

-- nothing was recovered
abbrev pub nowhere : ℕ → Ledger
nowhere partition = no_ledger

-- partition 0 gave up its entries from this position on
abbrev pub floors_from : ℕ → ℕ → List Floor
floors_from from zero = record { partition = 0; incarnation = 1; from = from } ∷ []
floors_from from (suc partition) = []
