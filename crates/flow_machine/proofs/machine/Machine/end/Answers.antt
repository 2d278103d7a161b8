use Rattle.std.proofs.Common.{◌∙◌, [], ap}
use Rattle.flow_machine.specs.Views.{machine_of, progress_of, rest_of}
use Rattle.flow_machine.proofs.Ending.{all_ends}
use Rattle.flow_machine.proofs.machine.Machine.end.Goals as goal

pub returns : goal.returns
returns c =
    let m = machine_of c.args.self.now in
    let over =
    ap (λ ts. record m { rest = rest_of ts; progress = progress_of c.put.new.place }) c.clear.ensures.items
    ∙ ap (λ p. record m { rest = []; progress = progress_of p }) c.put.ensures in
    all_ends c.tell.result c.args.made.now c.leave.new.made c.tell.new.made c.leave.new.self _ m (progress_of c.args.progress) over c.in_ok-leave.ensures.makes c.tell.ensures
