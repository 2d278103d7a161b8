use Rattle.cell_frames.proofs.Behind.{are_of_one}
use Rattle.cell_frames.proofs.logs.frames_are_of_others.Goals as goal

pub returns : goal.returns
returns c = are_of_one
