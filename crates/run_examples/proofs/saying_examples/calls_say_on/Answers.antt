use Rattle.run_examples.proofs.Saying.{miscounted, no_port, not_full, not_over, says_on, spoke, too_many_labels}
use Rattle.run_examples.proofs.saying_examples.calls_say_on.Goals as goal

pub returns-clause-all : goal.returns-clause-all
returns-clause-all c = says_on

pub returns-clause-few : goal.returns-clause-few
returns-clause-few c = too_many_labels

pub returns-clause-port : goal.returns-clause-port
returns-clause-port c = no_port

pub returns-clause-says : goal.returns-clause-says
returns-clause-says c = spoke

pub returns-clause-full : goal.returns-clause-full
returns-clause-full c = not_full

pub returns-clause-over : goal.returns-clause-over
returns-clause-over c = not_over

pub returns-clause-counted : goal.returns-clause-counted
returns-clause-counted c = miscounted
