-- The pairs of an array, one after another.
use Rattle.json_tree.specs.View.{items_view}
use Rattle.flow_reader.specs.Statements.{pairs_from}
use Rattle.flow_reader.proofs.Pairs.{all, begins, ends, goes_on}
use Rattle.flow_reader.proofs.bodies.pairs_from.Goals as goal

pub loop-index-init : goal.loop-index-init
loop-index-init c = rw c.in_ok-pairs.ensures.items (begins c.args.parts.now)

pub loop-index-preserved : goal.loop-index-preserved
loop-index-preserved c =
    rw c.in_ok-push-in-Ok.ensures.items (goes_on (pairs_from 0 (items_view c.args.parts.now)) c.loop-index.pairs.items c.args.parts.now c.loop-index.index c.index-parts-index.result c.in-Ok.pair c.loop-index-test.true c.index-parts-index.is c.loop-index.invariant c.in-Ok.ensures)

pub returns-in-Err : goal.returns-in-Err
returns-in-Err c =
    ends (pairs_from 0 (items_view c.args.parts.now)) c.loop-index.pairs.items c.args.parts.now c.loop-index.index c.index-parts-index.result c.in-Err.error c.under.result c.loop-index-test.true c.index-parts-index.is c.loop-index.invariant c.in-Err.ensures c.under.ensures

pub returns : goal.returns
returns c = all c.args.parts.now c.loop-index.pairs.items c.loop-index.index c.loop-index-test.false c.loop-index.invariant
