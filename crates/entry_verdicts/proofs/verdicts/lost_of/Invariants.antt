use Rattle.std.proofs.Common.{drop}
use Rattle.dura_value.specs.Dependencies.{Lost}
use Rattle.log_items.specs.Plain.{items_of}
use Rattle.spec_tracker.specs.Marks.{floors_of}
use Rattle.entry_verdicts.proofs.Naming.{HasPassed}
use Rattle.entry_verdicts.proofs.verdicts.lost_of.Given as goal

-- what the items before this one name isn't lost
abbrev pub invariant-loop-item : goal.invariant-loop-item
invariant-loop-item l = HasPassed (λ e. Lost (floors_of l.marks) e → ⊥) (items_of l.items) (items_of (drop l.item-index l.items))
