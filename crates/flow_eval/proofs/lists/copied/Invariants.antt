use Rattle.std.proofs.Common.{◌≡◌, ◌++◌, drop}
use Rattle.flow_eval.proofs.lists.copied.Given as goal

-- the copies so far, and the rest
abbrev pub invariant-loop-part : goal.invariant-loop-part
invariant-loop-part l = l.copies.items ++ drop l.part-index l.parts ≡ l.parts
