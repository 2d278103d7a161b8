use Rattle.std.proofs.Common.{◌≡◌}
use Rattle.std.specs.Vec.Iter.{into_iter_items}
use Rattle.flow_syntax.specs.Eval.{to_scalars}
use Rattle.flow_eval.proofs.Sequences.{behind}
use Rattle.flow_eval.proofs.expressions.to_scalars.Given as goal

-- the scalars so far, and what the rest of the values is
abbrev pub invariant-loop-value : goal.invariant-loop-value
invariant-loop-value l = behind l.scalars.items (to_scalars (into_iter_items l.value-iterator)) ≡ to_scalars l.fn.values.items
