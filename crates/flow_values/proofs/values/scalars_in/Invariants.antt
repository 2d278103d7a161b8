-- The parts that are still to be read lead on to all of them.
use Rattle.std.proofs.Common.{◌≡◌, drop}
use Rattle.json_tree.specs.View.{items_view}
use Rattle.flow_values.specs.Values.{scalars_from}
use Rattle.flow_values.proofs.Scalars.{with_rest}
use Rattle.flow_values.proofs.values.scalars_in.Given as goal

abbrev pub invariant-loop-index : goal.invariant-loop-index
invariant-loop-index l = with_rest l.scalars.items l.index (items_view (drop l.index l.parts)) ≡ scalars_from 0 (items_view l.parts)
