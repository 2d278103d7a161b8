-- What is known of a frame from its own partition alone.
use Rattle.std.specs.Prelude.{◌≡◌, ℕ, List}
use Rattle.std.specs.List.{All, Contains}
use Rattle.dura_value.specs.Items.{Entry}
use Rattle.log_items.specs.Entries.{items_in, identities_at, AreInTurn}
use Rattle.log_items.specs.Readings.{ReadOn}
use Rattle.log_items.specs.Streams.{Sent}
use Rattle.commit_gate.specs.Ledgers.{Ledger, log_length, after_frame}

-- A frame goes on where its partition stands, and with what it sends it makes this of it.
pub record GoesOn (partition : ℕ) (ledger : Ledger) (entries : List Entry) (sent : List Sent) (after : Ledger) : Type 0 where
  pub positions : AreInTurn (log_length ledger) entries
  pub reads : ReadOn ledger.nexts (items_in entries)
  pub senders : All (λ one. Contains (identities_at partition entries) one.posted.entry) sent
  pub makes : after ≡ after_frame ledger entries sent
