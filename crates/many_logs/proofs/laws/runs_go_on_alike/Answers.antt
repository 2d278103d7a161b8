use Rattle.many_logs.proofs.Runs.{goes_on_alike}
use Rattle.many_logs.proofs.laws.runs_go_on_alike.Goals as goal

pub returns : goal.returns
returns c = goes_on_alike
