use Rattle.trail_states.proofs.States.{makes_states}
use Rattle.trail_states.proofs.laws.trails_make_states.Goals as goal

pub returns : goal.returns
returns c rules trail made low first grown = makes_states rules made low first trail grown
