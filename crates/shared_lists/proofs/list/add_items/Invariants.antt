use Rattle.std.proofs.Common.{◌≡◌, ◌++◌, drop}
use Rattle.shared_lists.specs.Lists.{lent_items, shared_items}
use Rattle.shared_lists.proofs.list.add_items.Given as goal

-- those so far, and the rest
abbrev pub invariant-loop-item : goal.invariant-loop-item
invariant-loop-item g l = lent_items l.all.items ++ shared_items (drop l.item-index l.items) ≡ lent_items l.initial.all.items ++ shared_items l.items
