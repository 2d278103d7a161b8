use Rattle.round_steps.proofs.Inner.{inner_behind}
use Rattle.round_steps.proofs.rounds.step_all.Goals as goal

pub returns-clause-joined : goal.returns-clause-joined
returns-clause-joined g c = λ s all. c.turn_all.ensures.joined s (c.in_ok-take_in_all.ensures.joined s all)

pub returns-clause-inner : goal.returns-clause-inner
returns-clause-inner g c = inner_behind g.M.Picked.rules c.args.cells.now.items c.take_in_all.new.cells.items c.turn_all.new.cells.items c.turn_all.result c.in_ok-take_in_all.ensures.joined c.turn_all.ensures.inner
