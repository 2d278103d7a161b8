use Rattle.std.proofs.Common.{◌≡◌, take}
use Rattle.cell_tasks.specs.Tasks.{is_out}
use Rattle.log_items.specs.Plain.{items_of}
use Rattle.spec_cell.specs.Tasks.{without_ended}
use Rattle.spec_cell.proofs.tasks.forget_all_ended.Given as goal

-- the tasks of the items before aren't out any more
abbrev pub invariant-loop-item : goal.invariant-loop-item
invariant-loop-item l = is_out l.given ≡ without_ended (is_out l.initial.given) (items_of (take l.item-index l.items))
