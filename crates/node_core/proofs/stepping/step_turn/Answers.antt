use Rattle.node_core.proofs.Turned.{turned_as}
use Rattle.node_core.proofs.stepping.step_turn.Goals as goal

pub returns-in_ok-fits-in-Turned-clause-steps : goal.returns-in_ok-fits-in-Turned-clause-steps
returns-in_ok-fits-in-Turned-clause-steps g c = turned_as g.M.Picked.rules c.args.mode c.args.limit c.args.part c.args.cells.now.items c.turn_at.new.cells.items c.in_ok-position.field-0 c.in-Turned.position c.in-Turned.packets c.in-Turned.is c.in_ok-position.ensures.turns
