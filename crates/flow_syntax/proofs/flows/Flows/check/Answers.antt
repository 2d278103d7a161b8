use Rattle.flow_syntax.specs.Views.{flows_of}
use Rattle.flow_syntax.proofs.Walks.{shape_breaks, name_breaks, nothing_breaks}
use Rattle.flow_syntax.proofs.flows.Flows.check.Goals as goal

pub returns-in-Err : goal.returns-in-Err
returns-in-Err c = shape_breaks (flows_of c.args.self.now) c.in-Err.place c.in-Err.ensures

pub returns-in-Err-walk : goal.returns-in-Err-walk
returns-in-Err-walk c = name_breaks (flows_of c.args.self.now) c.in-Ok.field-0 c.in-Err-walk.place c.in-Ok.ensures c.in-Err-walk.ensures

pub returns-in-Ok-walk : goal.returns-in-Ok-walk
returns-in-Ok-walk c = nothing_breaks (flows_of c.args.self.now) c.in-Ok.field-0 c.in-Ok-walk.field-0 c.in-Ok.ensures c.in-Ok-walk.ensures
