use Rattle.world_examples.proofs.Joins.{begins_behind, not_read, not_left}
use Rattle.world_examples.proofs.joined.where_lives_begin.Goals as goal

pub returns-clause-gone : goal.returns-clause-gone
returns-clause-gone c = begins_behind

pub returns-clause-reads : goal.returns-clause-reads
returns-clause-reads c = not_read

pub returns-clause-leaves : goal.returns-clause-leaves
returns-clause-leaves c = not_left
