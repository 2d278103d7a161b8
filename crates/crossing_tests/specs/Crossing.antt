-- A request of partition 0 sends a message to partition 1, which takes it in.
use Rattle.std.proofs.Common.{◌≡◌, ℕ, zero, ◌+◌, ◌≤◌, List, [], ◌∷◌, Bool, cond, ap}
use Rattle.std.specs.Prelude.{nat_lt, if◌then◌else◌}
use Rattle.std.proofs.lemmas.Bool.{le-ltb}
use Rattle.site_model.specs.History.{Step}
use Rattle.commit_log.specs.declared.header.Header.{Header}
use Rattle.dura_value.specs.Ids.{orchestration, client}
use Rattle.dura_value.specs.Items.{Identity, Item, took, got, Entry}
use Rattle.dura_value.specs.Messages.{query, Message}
use Rattle.log_items.specs.Streams.{Sent}
use Rattle.commit_gate.specs.Ledgers.{Ledger, after_frame}
use Rattle.commit_gate.specs.Views.{no_ledger}
use Rattle.hub_store.specs.Origin.{Origin}

-- an empty segment of one of two partitions, whose flows file holds `{}`
abbrev pub header : (partition : ℕ) → Header
header partition = record { partition = partition; partitions = 2; digest = 0x08F44B07B5901A25; base = 0 }

-- both logs are empty, and this happened before
abbrev pub origin_with : List Step → Origin
origin_with steps = record { count = 2; logs = λ partition. record { file = 16 + partition; header = header partition; payloads = []; entries = [] }; steps = steps }

-- the client a asks how F/x stands, in the request with this number
abbrev pub message : (number : ℕ) → Message
message number = record { from = client (97 ∷ []); to = orchestration (70 ∷ []) (120 ∷ []); body = query number }

-- the first entry of partition 0
abbrev pub sender : Identity
sender = record { partition = 0; incarnation = 0; position = 0 }

-- the first entry of a partition, with this item
abbrev pub first_with : Item → Entry
first_with item = record { position = 0; incarnation = 0; items = item ∷ [] }

-- partition 0's takes the request, and sends that on
abbrev pub asking : Entry
asking = first_with (took (message 1))

abbrev pub sent_on : Sent
sent_on = record { to = 1; posted = record { entry = sender; message = message 1 } }

-- the first entry of partition 1 takes in what it says is the stream's first message: the one that was sent on, or another
abbrev pub taking : (number : ℕ) → Entry
taking number = first_with (got sender 0 (message number))

-- what a partition has sent on, once it has these entries
abbrev pub sent_by : (partition : ℕ) → List Entry → List Sent
sent_by zero (entry ∷ entries) = sent_on ∷ []
sent_by partition entries = []

-- what others see of each of the two
abbrev pub ledgers : (partition : ℕ) → List Entry → Ledger
ledgers partition mine = if nat_lt partition 2 then after_frame no_ledger mine (sent_by partition mine) else no_ledger

-- there is no other
pub no_other : (partition : ℕ) (mine : List Entry) → 2 ≤ partition → ledgers partition mine ≡ no_ledger
no_other partition mine past = ap (λ (b : Bool). cond b (after_frame no_ledger mine (sent_by partition mine)) no_ledger) (le-ltb partition 2 past)
