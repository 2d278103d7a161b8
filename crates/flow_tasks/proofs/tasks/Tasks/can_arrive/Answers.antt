use Rattle.std.proofs.Common.{◌∙◌, ap, sym, rules}
use Rattle.flow_tasks.specs.Changes.{can_arrive}
use Rattle.flow_tasks.proofs.Places.{there, not_there, open_where_none}
use Rattle.flow_tasks.proofs.tasks.Tasks.can_arrive.Goals as goal

pub returns-in-Some-clause-result : goal.returns-in-Some-clause-result
returns-in-Some-clause-result c =
    open_where_none c.is_none.result c.in-Some.task.now (sym c.is_none.ensures)
    ∙ sym (ap can_arrive (there c.args.self.now c.args.number c.in-Some.task.now (search rules) (search rules)))

pub returns-in-None-clause-result : goal.returns-in-None-clause-result
returns-in-None-clause-result c = sym (ap can_arrive (not_there c.args.self.now c.args.number (search rules)))
