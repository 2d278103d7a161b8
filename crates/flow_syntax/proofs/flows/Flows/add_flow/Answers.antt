use Rattle.std.proofs.Common.{ap, List}
use Rattle.flow_syntax.specs.Syntax.{Block, Named, Flows}
use Rattle.flow_syntax.specs.Views.{body_in, class_of, named_by}
use Rattle.flow_syntax.proofs.Maps.{put_into}
use Rattle.flow_syntax.proofs.flows.Flows.add_flow.Goals as goal

pub returns-clause-ok : goal.returns-clause-ok
returns-clause-ok c =
    let with : List (Named Block) → Flows = λ flows. record { flows = flows; classes = named_by class_of c.args.self.now.classes.entries } in
    ap with (put_into body_in c.args.self.now.flows.entries c.insert.new.self.entries c.args.name c.args.body c.in_ok-insert.ensures.entries)
