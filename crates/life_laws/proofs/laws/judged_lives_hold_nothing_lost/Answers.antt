use Rattle.life_laws.proofs.Judged.{judged_lives}
use Rattle.life_laws.proofs.laws.judged_lives_hold_nothing_lost.Goals as goal

pub returns : goal.returns
returns c = judged_lives
