-- What others see of each partition, once entries of it were settled behind those that were recovered.
use Rattle.std.specs.Prelude.{ℕ, List, ◌++◌, nat_lt, if◌then◌else◌, Result, Ok, Err}
use Rattle.commit_gate.specs.Ledgers.{Ledger}
use Rattle.commit_gate.specs.Views.{no_ledger}
use Rattle.dura_model.specs.Entries.{placed}
use Rattle.dura_model.specs.Partition.{Partition}
use Rattle.dura_model.specs.Sends.{nexts_in, readers_in}
use Rattle.dura_value.specs.Items.{Identity, Entry}
use Rattle.log_items.specs.Entries.{incarnations_in}
use Rattle.many_logs.specs.Placing.{of_partition}
use Rattle.many_rules.specs.Rules.{Rules}

-- these entries made this state
abbrev pub ledger_of : List Entry → Partition → Ledger
ledger_of entries p = record { incarnations = incarnations_in entries; nexts = nexts_in p; boxes = p.outboxes }

-- all entries of a partition: those that were recovered, and these
abbrev pub all_entries : Rules → (partition : ℕ) → List Entry → List Entry
all_entries rules partition mine = of_partition partition rules.recovered ++ mine

abbrev pub ledger_made : Rules → (partition : ℕ) → List Entry → Result Partition ℕ → Ledger
ledger_made rules partition mine (Ok p) = ledger_of (all_entries rules partition mine) p
ledger_made rules partition mine (Err n) = no_ledger

abbrev pub ledgers : Rules → (partition : ℕ) → List Entry → Ledger
ledgers rules partition mine = if nat_lt partition rules.count then ledger_made rules partition mine (placed rules.flows rules.count (rules.begin partition) mine) else no_ledger

-- who had taken in the last message of each stream to a partition at the beginning
abbrev pub readers : Rules → (partition source : ℕ) → Identity
readers rules partition = readers_in (rules.begin partition)
