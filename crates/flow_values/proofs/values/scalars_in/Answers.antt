-- The parts of a list, one after another.
use Rattle.json_tree.specs.View.{items_view}
use Rattle.flow_values.specs.Values.{scalars_from}
use Rattle.flow_values.proofs.Scalars.{all, begins, ends, goes_on}
use Rattle.flow_values.proofs.values.scalars_in.Goals as goal

pub loop-index-preserved : goal.loop-index-preserved
loop-index-preserved c =
    rw c.in_ok-push-in-Ok.ensures.items (goes_on (scalars_from 0 (items_view c.args.parts.now)) c.loop-index.scalars.items c.args.parts.now c.loop-index.index c.index-parts-index.result c.in-Ok.scalar c.loop-index-test.true c.index-parts-index.is c.loop-index.invariant c.in-Ok.ensures)

pub returns-in-Err : goal.returns-in-Err
returns-in-Err c =
    ends (scalars_from 0 (items_view c.args.parts.now)) c.loop-index.scalars.items c.args.parts.now c.loop-index.index c.index-parts-index.result c.in-Err.error c.under.result c.loop-index-test.true c.index-parts-index.is c.loop-index.invariant c.in-Err.ensures c.under.ensures

pub loop-index-init : goal.loop-index-init
loop-index-init c = rw c.in_ok-scalars.ensures.items (begins c.args.parts.now)

pub returns : goal.returns
returns c = all c.args.parts.now c.loop-index.scalars.items c.loop-index.index c.loop-index-test.false c.loop-index.invariant
