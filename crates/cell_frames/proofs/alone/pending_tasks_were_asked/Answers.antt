use Rattle.cell_frames.proofs.Asked.{base_asked}
use Rattle.cell_frames.proofs.alone.pending_tasks_were_asked.Goals as goal

pub returns : goal.returns
returns c = base_asked
