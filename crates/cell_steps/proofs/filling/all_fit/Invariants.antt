use Rattle.std.proofs.Common.{take}
use Rattle.std.specs.List.{All}
use Rattle.part_items.specs.ItemFits.{FitsItem}
use Rattle.log_items.specs.Plain.{items_of}
use Rattle.cell_steps.proofs.filling.all_fit.Given as goal

abbrev pub invariant-loop-item : goal.invariant-loop-item
invariant-loop-item l = All FitsItem (items_of (take l.item-index l.items))
