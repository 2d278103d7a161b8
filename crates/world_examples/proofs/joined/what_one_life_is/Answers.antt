use Rattle.world_examples.proofs.Joins.{is_one, lacks_lived, lacks_begun, lacks_within}
use Rattle.world_examples.proofs.joined.what_one_life_is.Goals as goal

pub returns-clause-one : goal.returns-clause-one
returns-clause-one c = is_one

pub returns-clause-lived : goal.returns-clause-lived
returns-clause-lived c = lacks_lived

pub returns-clause-begun : goal.returns-clause-begun
returns-clause-begun c = lacks_begun

pub returns-clause-within : goal.returns-clause-within
returns-clause-within c = lacks_within
