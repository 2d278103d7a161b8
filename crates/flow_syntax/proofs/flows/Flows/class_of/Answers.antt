use Rattle.flow_syntax.specs.Views.{class_of}
use Rattle.flow_syntax.proofs.Maps.{found_at}
use Rattle.flow_syntax.proofs.flows.Flows.class_of.Goals as goal

pub returns : goal.returns
returns c = found_at class_of c.args.self.now.classes.entries c.args.name.now c.get.result c.get.ensures.value
