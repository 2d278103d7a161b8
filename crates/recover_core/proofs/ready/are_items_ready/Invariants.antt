use Rattle.std.proofs.Common.{◌≡◌, drop}
use Rattle.log_items.specs.Plain.{items_of}
use Rattle.many_logs.specs.Placing.{are_ready}
use Rattle.part_steps.specs.States.{parts_in}
use Rattle.recover_core.proofs.ready.are_items_ready.Given as goal

-- whether they are as far as the items from this one on need says whether they are as far as all
abbrev pub invariant-items : goal.invariant-items
invariant-items l = are_ready (parts_in l.states) l.partition (items_of (drop l.item-index l.items)) ≡ are_ready (parts_in l.states) l.partition (items_of l.items)
