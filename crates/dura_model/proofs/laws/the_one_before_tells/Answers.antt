use Rattle.dura_model.proofs.Turns.{last_tells}
use Rattle.dura_model.proofs.laws.the_one_before_tells.Goals as goal

pub returns : goal.returns
returns c = last_tells
