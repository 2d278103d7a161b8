use Rattle.std.proofs.Common.{◌∙◌, ap, sym, rules}
use Rattle.dura_value.specs.Views.{spot_of}
use Rattle.flow_tasks.specs.OpenTasks.{passes_at, is_open_ask}
use Rattle.flow_tasks.proofs.Places.{there, not_there}
use Rattle.flow_tasks.proofs.tasks.Tasks.asks.Goals as goal

pub returns-in-Some : goal.returns-in-Some
returns-in-Some c = c.asks.ensures ∙ sym (ap (passes_at (is_open_ask (spot_of c.args.spot.now))) (there c.args.self.now c.args.number c.in-Some.task.now (search rules) (search rules)))

pub returns-in-None : goal.returns-in-None
returns-in-None c = sym (ap (passes_at (is_open_ask (spot_of c.args.spot.now))) (not_there c.args.self.now c.args.number (search rules)))
