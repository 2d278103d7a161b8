use Rattle.std.proofs.Common.{◌≡◌, ◌++◌, drop}
use Rattle.part_steps.proofs.keeping.add_copies.Given as goal

-- the copies so far, and the rest
abbrev pub invariant-loop-message : goal.invariant-loop-message
invariant-loop-message l = l.copies.items ++ drop l.message-index l.messages ≡ l.initial.copies.items ++ l.messages
