use Rattle.cell_frames.proofs.Holding.{made_ours}
use Rattle.cell_frames.proofs.laws.turns_make_what_is_ours.Goals as goal

pub returns : goal.returns
returns c rules latest told mode limit old new position packets facts first most since now ours waits makes = made_ours rules latest told mode limit old position packets facts first most since now ours waits new makes
