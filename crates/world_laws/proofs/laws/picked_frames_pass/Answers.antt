use Rattle.world_laws.proofs.Passing.{passes}
use Rattle.world_laws.proofs.laws.picked_frames_pass.Goals as goal

pub returns : goal.returns
returns c rules made w partition going why on stands ground are below frame refuses = passes rules made w on stands ground are partition below going frame why refuses
