-- The statements that are still to be read lead on to all of them.
use Rattle.std.proofs.Common.{◌≡◌, drop}
use Rattle.json_tree.specs.View.{items_view}
use Rattle.flow_reader.specs.Statements.{statements_from}
use Rattle.flow_reader.proofs.Blocks.{with_rest}
use Rattle.flow_reader.proofs.bodies.+statements.Given as goal

abbrev pub invariant-statements_in-loop-index : goal.invariant-statements_in-loop-index
invariant-statements_in-loop-index l = with_rest l.inside l.statements.items l.index (items_view (drop l.index l.items)) ≡ statements_from l.inside 0 (items_view l.items)
