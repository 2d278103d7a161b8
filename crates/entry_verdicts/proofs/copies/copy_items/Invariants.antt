use Rattle.std.proofs.Common.{◌≡◌, ◌++◌, drop}
use Rattle.entry_verdicts.proofs.copies.copy_items.Given as goal

-- the copies so far, and the rest
abbrev pub invariant-loop-item : goal.invariant-loop-item
invariant-loop-item l = l.copies.items ++ drop l.item-index l.items ≡ l.items
