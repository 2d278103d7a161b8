use Rattle.cell_frames.proofs.Unlost.{picked_unlost}
use Rattle.cell_frames.proofs.lost.picked_frames_are_unlost.Goals as goal

pub returns : goal.returns
returns c position floors flows count begin marks old new frame sending holds picked = picked_unlost position floors old holds flows count begin marks frame sending new picked
