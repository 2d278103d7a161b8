use Rattle.flow_reader.proofs.Counts.{one_there, one_not_there}
use Rattle.flow_reader.proofs.simple.one_part.Goals as goal

pub returns-then-parts-eq1 : goal.returns-then-parts-eq1
returns-then-parts-eq1 c =
    one_there c.args.parts.now c.index-parts-0.result c.if-parts-eq1.true c.index-parts-0.is

pub returns-else-parts-eq1 : goal.returns-else-parts-eq1
returns-else-parts-eq1 c = one_not_there c.args.parts.now c.if-parts-eq1.false
