use Rattle.flow_reader.proofs.Counts.{three_there, three_not_there}
use Rattle.flow_reader.proofs.simple.three_parts.Goals as goal

pub returns-then-parts-eq3 : goal.returns-then-parts-eq3
returns-then-parts-eq3 c =
    three_there c.args.parts.now c.index-parts-0.result c.index-parts-1.result c.index-parts-2.result c.if-parts-eq3.true c.index-parts-0.is c.index-parts-1.is c.index-parts-2.is

pub returns-else-parts-eq3 : goal.returns-else-parts-eq3
returns-else-parts-eq3 c = three_not_there c.args.parts.now c.if-parts-eq3.false
