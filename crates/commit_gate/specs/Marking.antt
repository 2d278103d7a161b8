-- What is settled of all partitions, as others are told.
use Rattle.std.specs.Prelude.{ℕ, zero, suc, ◌+◌, List, [], ◌∷◌, ◌++◌}
use Rattle.commit_gate.specs.declared.ledger.Ledger.{Ledger}
use Rattle.commit_gate.specs.Ledgers.{log_length}
use Rattle.commit_gate.specs.Views.{ledger_of, nexts_by, readers_in}
use Rattle.spec_tracker.specs.declared.marks.Read.{Read}

abbrev pub length_of : Ledger → ℕ
length_of ledger = log_length (ledger_of ledger)

-- how far a partition took in the stream from another, and the entry that took the last message
abbrev pub read_at : (reader : ℕ) → Ledger → (source : ℕ) → Read
read_at reader ledger source = record { reader = reader; source = source; next = nexts_by ledger.nexts.items source; inc = (readers_in ledger source).incarnation; pos = (readers_in ledger source).position }

-- the same of the streams from so many partitions
abbrev pub reads_to : (reader : ℕ) → Ledger → ℕ → List Read
reads_to reader ledger zero = []
reads_to reader ledger (suc count) = reads_to reader ledger count ++ read_at reader ledger count ∷ []

-- of these partitions, of which the first has this number
abbrev pub all_reads : (count reader : ℕ) → List Ledger → List Read
all_reads count reader [] = []
all_reads count reader (ledger ∷ ledgers) = reads_to reader ledger count ++ all_reads count (reader + 1) ledgers
