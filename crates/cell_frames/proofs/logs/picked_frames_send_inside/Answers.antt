use Rattle.cell_frames.proofs.Behind.{picked_inside}
use Rattle.cell_frames.proofs.logs.picked_frames_send_inside.Goals as goal

pub returns : goal.returns
returns c = picked_inside
