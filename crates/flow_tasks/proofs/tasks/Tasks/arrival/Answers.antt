use Rattle.std.proofs.Common.{◌∙◌, ap, sym, rules}
use Rattle.flow_syntax.specs.Machine.{arrival_of as arrival_at}
use Rattle.flow_tasks.proofs.Places.{there, not_there, seen}
use Rattle.flow_tasks.proofs.tasks.Tasks.arrival.Goals as goal

pub returns-in-Some : goal.returns-in-Some
returns-in-Some c =
    seen c.as_ref.result c.in-Some.task.now c.as_ref.ensures.value
    ∙ sym (ap arrival_at (there c.args.self.now c.args.number c.in-Some.task.now (search rules) (search rules)))

pub returns-in-None : goal.returns-in-None
returns-in-None c = sym (ap arrival_at (not_there c.args.self.now c.args.number (search rules)))
