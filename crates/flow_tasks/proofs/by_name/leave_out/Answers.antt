use Rattle.std.proofs.Common.{rules}
use Rattle.flow_tasks.proofs.Positions.{not_taken_out}
use Rattle.flow_tasks.proofs.by_name.leave_out.Goals as goal

pub returns-in_default : goal.returns-in_default
returns-in_default c = not_taken_out c.args.number c.args.numbers.now.items (search rules)
