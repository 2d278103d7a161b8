use Rattle.cell_frames.proofs.Behind.{goes_there}
use Rattle.cell_frames.proofs.logs.frames_go_behind_their_logs.Goals as goal

pub returns : goal.returns
returns c = goes_there
