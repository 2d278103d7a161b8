use Rattle.many_logs.proofs.Gates.{frame_ready, frame_named}
use Rattle.many_logs.proofs.laws.what_passes_is_ready.Goals as goal

pub returns-clause-ready : goal.returns-clause-ready
returns-clause-ready c = frame_ready

pub returns-clause-named : goal.returns-clause-named
returns-clause-named c = frame_named
