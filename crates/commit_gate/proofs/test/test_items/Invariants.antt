use Rattle.std.proofs.Common.{take}
use Rattle.std.specs.List.{All}
use Rattle.log_items.specs.Plain.{items_of}
use Rattle.commit_gate.specs.Refused.{Passes}
use Rattle.commit_gate.specs.Views.{ledgers_of, floors_of}
use Rattle.commit_gate.proofs.test.test_items.Given as goal

abbrev pub invariant-loop-item : goal.invariant-loop-item
invariant-loop-item l = All (Passes (ledgers_of l.ledgers) (floors_of l.ledgers) l.partition) (items_of (take l.item-index l.items))
