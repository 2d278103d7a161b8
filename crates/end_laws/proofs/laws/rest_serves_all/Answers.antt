use Rattle.end_laws.proofs.Ends.{done, waiting}
use Rattle.end_laws.proofs.laws.rest_serves_all.Goals as goal
use Rattle.end_laws.specs.Rested.{AnyFollows}

pub returns-clause-done : goal.returns-clause-done
returns-clause-done c rules trail told lines queues made accepted rested all = done AnyFollows rules trail told lines queues made accepted rested all

pub returns-clause-waiting : goal.returns-clause-waiting
returns-clause-waiting c rules trail told lines queues made accepted rested name number unsaid = waiting AnyFollows rules trail told lines queues made accepted rested name number unsaid
