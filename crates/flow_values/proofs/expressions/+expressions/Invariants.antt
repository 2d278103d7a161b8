-- The parts that are still to be read lead on to all of them.
use Rattle.std.proofs.Common.{◌≡◌, drop}
use Rattle.json_tree.specs.View.{items_view}
use Rattle.flow_values.specs.Expressions.{expressions_from}
use Rattle.flow_values.proofs.Parts.{with_rest}
use Rattle.flow_values.proofs.expressions.+expressions.Given as goal

abbrev pub invariant-parts_in-loop-index : goal.invariant-parts_in-loop-index
invariant-parts_in-loop-index l = with_rest l.parts.items l.index (items_view (drop l.index l.items)) ≡ expressions_from 0 (items_view l.items)
