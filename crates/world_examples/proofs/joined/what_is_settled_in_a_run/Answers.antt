use Rattle.world_examples.proofs.Joins.{settled_there, settled_later, settled_nowhere, settled_elsewhere}
use Rattle.world_examples.proofs.joined.what_is_settled_in_a_run.Goals as goal

pub returns-clause-there : goal.returns-clause-there
returns-clause-there c = settled_there

pub returns-clause-early : goal.returns-clause-early
returns-clause-early c = settled_later

pub returns-clause-split : goal.returns-clause-split
returns-clause-split c = settled_nowhere

pub returns-clause-other : goal.returns-clause-other
returns-clause-other c = settled_elsewhere
