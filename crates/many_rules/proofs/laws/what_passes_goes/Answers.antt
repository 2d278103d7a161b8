use Rattle.many_rules.proofs.Passing.{passes_goes}
use Rattle.many_rules.proofs.laws.what_passes_goes.Goals as goal

pub returns : goal.returns
returns c rules trail partition going made numbered passes states all = passes_goes rules made trail partition going numbered passes states all
