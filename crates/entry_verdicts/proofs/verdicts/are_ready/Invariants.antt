use Rattle.std.proofs.Common.{drop}
use Rattle.dura_value.specs.Dependencies.{Ready}
use Rattle.log_items.specs.Plain.{items_of}
use Rattle.spec_tracker.specs.Marks.{floors_of, length_in}
use Rattle.entry_verdicts.proofs.Naming.{HasPassed}
use Rattle.entry_verdicts.proofs.verdicts.are_ready.Given as goal

-- what the items before this one name is ready
abbrev pub invariant-loop-item : goal.invariant-loop-item
invariant-loop-item l = HasPassed (Ready (length_in l.marks) (floors_of l.marks)) (items_of l.items) (items_of (drop l.item-index l.items))
