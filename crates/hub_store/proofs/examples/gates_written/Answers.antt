use Rattle.hub_store.proofs.LogsStand.{opened_last, synced_last, not_whole}
use Rattle.hub_store.proofs.examples.gates_written.Goals as goal

pub returns-clause-opened : goal.returns-clause-opened
returns-clause-opened c = opened_last

pub returns-clause-synced : goal.returns-clause-synced
returns-clause-synced c = synced_last

pub returns-clause-log : goal.returns-clause-log
returns-clause-log c = not_whole
