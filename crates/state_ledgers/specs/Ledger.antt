-- What others see of a partition that was recovered.
use Rattle.std.specs.Prelude.{◌≡◌, ℕ, ◌<◌, ◌≤◌, List, []}
use Rattle.commit_gate.specs.Keeping.{IsSized}
use Rattle.commit_gate.specs.Ledgers.{Ledger}
use Rattle.commit_gate.specs.Views.{ledger_of, whole_of, readers_in, floors_in}
use Rattle.commit_gate.specs.declared.ledger.Ledger as declared
use Rattle.dura_model.specs.Partition.{Partition, nobody}
use Rattle.dura_model.specs.Sends.{nexts_in}

-- entries of these incarnations made this state
abbrev pub made_by : List ℕ → Partition → Ledger
made_by past p = record { incarnations = past; nexts = nexts_in p; boxes = p.outboxes }

-- nobody took in a message from past the count
abbrev pub NoneReadPast : (count : ℕ) → Partition → Type 0
NoneReadPast count p = (source : ℕ) → count ≤ source → (p.inboxes source).reader ≡ nobody

-- The ledger shows a state of one of so many partitions that was recovered, whose entries are of these incarnations: how far it took in
-- each stream and by which entry, and what is left of its own. Nothing is under way, and no entry was given up.
pub record IsLedgerOf (count : ℕ) (p : Partition) (past : List ℕ) (ledger : declared.Ledger) : Type 0 where
  pub sized : IsSized count ledger
  pub settled : ledger_of ledger ≡ made_by past p
  pub whole : whole_of ledger ≡ ledger_of ledger
  pub read : (source : ℕ) → source < count → readers_in ledger source ≡ (p.inboxes source).reader
  pub nothing_lost : floors_in ledger ≡ []
