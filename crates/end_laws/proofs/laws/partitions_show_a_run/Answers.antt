use Rattle.end_laws.proofs.Worlds.{world_after}
use Rattle.end_laws.proofs.laws.partitions_show_a_run.Goals as goal

pub returns : goal.returns
returns c rules trail made accepted = world_after rules trail made accepted
