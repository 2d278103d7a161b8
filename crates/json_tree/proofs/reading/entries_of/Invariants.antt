-- The members that are left stand behind those that went over.
use Rattle.std.proofs.Common.{◌≡◌, ◌++◌, ◌+◌, ◌≤◌, length, vec_capacity}
use Rattle.json_tree.proofs.reading.entries_of.Given as goal

abbrev pub invariant-loop-key : goal.invariant-loop-key
invariant-loop-key l = l.members.items ++ l.key-iterator ≡ l.fn.found.entries × (length l.members.items + length l.key-iterator ≤ vec_capacity l.members)
