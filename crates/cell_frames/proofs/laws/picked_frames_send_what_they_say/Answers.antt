use Rattle.cell_frames.proofs.Ledgers.{picked_goes}
use Rattle.cell_frames.proofs.laws.picked_frames_send_what_they_say.Goals as goal

pub returns : goal.returns
returns c = picked_goes
