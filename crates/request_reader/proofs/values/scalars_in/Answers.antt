-- One part more was read, or one is no scalar.
use Rattle.serde_json.specs.View.{items_view}
use Rattle.request_reader.specs.Values.{scalars_in}
use Rattle.request_reader.proofs.Scalars.{all, begins, ends_by, goes_on}
use Rattle.request_reader.proofs.values.scalars_in.Goals as goal

pub loop-part-preserved : goal.loop-part-preserved
loop-part-preserved c =
    goes_on (scalars_in (items_view c.args.parts.now)) c.loop-part.scalars.items _ c.args.parts.now c.loop-part.part-index c.part-item.result c.loop-part-test.true c.part-item.is c.loop-part.invariant c.in-Ok.ensures

pub loop-part-init : goal.loop-part-init
loop-part-init c = rw c.new-scalars.ensures.items (begins c.args.parts.now)

pub returns-in-Err : goal.returns-in-Err
returns-in-Err c =
    ends_by (scalars_in (items_view c.args.parts.now)) c.loop-part.scalars.items c.args.parts.now c.loop-part.part-index c.part-item.result c.in-Err.error c.loop-part-test.true c.part-item.is c.loop-part.invariant c.in-Err.ensures

pub returns : goal.returns
returns c = all c.args.parts.now c.loop-part.scalars.items c.loop-part.part-index c.loop-part-test.false c.loop-part.invariant
