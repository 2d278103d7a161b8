use Rattle.cell_frames.proofs.Said.{said_joined}
use Rattle.cell_frames.proofs.alone.what_is_said_stays_joined.Goals as goal

pub returns : goal.returns
returns c = said_joined
