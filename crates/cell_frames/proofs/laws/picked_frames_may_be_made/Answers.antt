use Rattle.cell_frames.proofs.Frames.{picked_makes}
use Rattle.cell_frames.proofs.laws.picked_frames_may_be_made.Goals as goal

pub returns : goal.returns
returns c = picked_makes
