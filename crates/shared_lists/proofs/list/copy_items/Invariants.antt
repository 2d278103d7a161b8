use Rattle.std.proofs.Common.{◌≡◌, ◌++◌, drop}
use Rattle.shared_lists.specs.Lists.{shared_items}
use Rattle.shared_lists.proofs.list.copy_items.Given as goal

-- the copies so far, and the rest
abbrev pub invariant-loop-item : goal.invariant-loop-item
invariant-loop-item g l = shared_items l.copies.items ++ shared_items (drop l.item-index l.items) ≡ shared_items l.items
