use Rattle.flow_reader.proofs.Counts.{two_there, two_not_there}
use Rattle.flow_reader.proofs.simple.two_parts.Goals as goal

pub returns-then-parts-eq2 : goal.returns-then-parts-eq2
returns-then-parts-eq2 c =
    two_there c.args.parts.now c.index-parts-0.result c.index-parts-1.result c.if-parts-eq2.true c.index-parts-0.is c.index-parts-1.is

pub returns-else-parts-eq2 : goal.returns-else-parts-eq2
returns-else-parts-eq2 c = two_not_there c.args.parts.now c.if-parts-eq2.false
