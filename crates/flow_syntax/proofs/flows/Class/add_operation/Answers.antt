use Rattle.std.proofs.Common.{ap, List}
use Rattle.flow_syntax.specs.Syntax.{Block, Named, Class}
use Rattle.flow_syntax.specs.Views.{body_in}
use Rattle.flow_syntax.proofs.Maps.{put_into}
use Rattle.flow_syntax.proofs.flows.Class.add_operation.Goals as goal

pub returns-clause-ok : goal.returns-clause-ok
returns-clause-ok c =
    let with : List (Named Block) → Class = λ operations. record { init = c.args.self.now.init; operations = operations } in
    ap with (put_into body_in c.args.self.now.operations.entries c.insert.new.self.entries c.args.name c.args.body c.in_ok-insert.ensures.entries)
