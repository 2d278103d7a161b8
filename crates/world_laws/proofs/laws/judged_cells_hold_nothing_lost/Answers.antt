use Rattle.world_laws.proofs.Depending.{nothing_lost}
use Rattle.world_laws.proofs.laws.judged_cells_hold_nothing_lost.Goals as goal

pub returns : goal.returns
returns c rules made w marks on stands ground are known judged = nothing_lost rules made w marks on stands ground are known judged
