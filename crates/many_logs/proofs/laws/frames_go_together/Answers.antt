use Rattle.many_logs.proofs.Frames.{frames_together}
use Rattle.many_logs.proofs.laws.frames_go_together.Goals as goal

pub returns : goal.returns
returns c = frames_together
