use Rattle.std.proofs.Common.{ap, List}
use Rattle.flow_syntax.specs.Syntax.{Named, Class, Flows}
use Rattle.flow_syntax.specs.Views.{bodies_of, class_of}
use Rattle.flow_syntax.proofs.Maps.{put_into}
use Rattle.flow_syntax.proofs.flows.Flows.add_class.Goals as goal

pub returns-clause-ok : goal.returns-clause-ok
returns-clause-ok c =
    let with : List (Named Class) → Flows = λ classes. record { flows = bodies_of c.args.self.now.flows; classes = classes } in
    ap with (put_into class_of c.args.self.now.classes.entries c.insert.new.self.entries c.args.name c.args.class c.in_ok-insert.ensures.entries)
