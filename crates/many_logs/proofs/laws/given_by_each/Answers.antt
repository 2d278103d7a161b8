use Rattle.many_logs.proofs.Given.{given_of_each, each_of_given}
use Rattle.many_logs.proofs.laws.given_by_each.Goals as goal

pub returns-clause-all : goal.returns-clause-all
returns-clause-all c = given_of_each

pub returns-clause-each : goal.returns-clause-each
returns-clause-each c = each_of_given
