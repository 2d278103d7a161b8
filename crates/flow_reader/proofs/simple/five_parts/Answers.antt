use Rattle.flow_reader.proofs.Counts.{five_there, five_not_there}
use Rattle.flow_reader.proofs.simple.five_parts.Goals as goal

pub returns-then-parts-eq5 : goal.returns-then-parts-eq5
returns-then-parts-eq5 c =
    five_there c.args.parts.now c.index-parts-0.result c.index-parts-1.result c.index-parts-2.result c.index-parts-3.result c.index-parts-4.result c.if-parts-eq5.true c.index-parts-0.is c.index-parts-1.is c.index-parts-2.is c.index-parts-3.is c.index-parts-4.is

pub returns-else-parts-eq5 : goal.returns-else-parts-eq5
returns-else-parts-eq5 c = five_not_there c.args.parts.now c.if-parts-eq5.false
