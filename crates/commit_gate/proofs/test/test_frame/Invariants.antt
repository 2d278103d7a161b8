use Rattle.std.proofs.Common.{take}
use Rattle.std.specs.List.{All}
use Rattle.log_items.specs.Plain.{entries_of}
use Rattle.commit_gate.specs.Refused.{Passes}
use Rattle.commit_gate.specs.Views.{ledgers_of, floors_of}
use Rattle.commit_gate.proofs.test.test_frame.Given as goal
use Rattle.log_items.specs.Entries.{items_in}

abbrev pub invariant-loop-entry : goal.invariant-loop-entry
invariant-loop-entry l = All (Passes (ledgers_of l.ledgers) (floors_of l.ledgers) l.partition) (items_in (entries_of (take l.entry-index l.entry-items)))
