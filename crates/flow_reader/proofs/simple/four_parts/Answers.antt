use Rattle.flow_reader.proofs.Counts.{four_there, four_not_there}
use Rattle.flow_reader.proofs.simple.four_parts.Goals as goal

pub returns-then-parts-eq4 : goal.returns-then-parts-eq4
returns-then-parts-eq4 c =
    four_there c.args.parts.now c.index-parts-0.result c.index-parts-1.result c.index-parts-2.result c.index-parts-3.result c.if-parts-eq4.true c.index-parts-0.is c.index-parts-1.is c.index-parts-2.is c.index-parts-3.is

pub returns-else-parts-eq4 : goal.returns-else-parts-eq4
returns-else-parts-eq4 c = four_not_there c.args.parts.now c.if-parts-eq4.false
