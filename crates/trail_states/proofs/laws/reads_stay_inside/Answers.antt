use Rattle.trail_states.proofs.States.{makes_states, reads_inside}
use Rattle.trail_states.proofs.laws.reads_stay_inside.Goals as goal

pub returns : goal.returns
returns c rules trail reader source made low first grown there here = reads_inside rules trail reader source (makes_states rules made low first trail grown) there here
