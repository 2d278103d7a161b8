-- The pairs that are still to be read lead on to all of them.
use Rattle.std.proofs.Common.{◌≡◌, drop}
use Rattle.json_tree.specs.View.{items_view}
use Rattle.flow_reader.specs.Statements.{pairs_from}
use Rattle.flow_reader.proofs.Pairs.{with_rest}
use Rattle.flow_reader.proofs.bodies.pairs_from.Given as goal

abbrev pub invariant-loop-index : goal.invariant-loop-index
invariant-loop-index l = with_rest l.pairs.items l.index (items_view (drop l.index l.parts)) ≡ pairs_from 0 (items_view l.parts)
