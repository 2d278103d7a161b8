use Rattle.world_examples.proofs.Courses.{still_holds, untold, all_facts, each_fact}
use Rattle.world_examples.specs.Courses.{still}
use Rattle.world_examples.proofs.lives.a_life_has_all_facts.Goals as goal

pub returns-clause-held : goal.returns-clause-held
returns-clause-held c = still_holds

pub returns-clause-lived : goal.returns-clause-lived
returns-clause-lived c = λ mode nodes steps marks are. all_facts mode nodes (still steps marks) (still_holds mode nodes steps marks are)

pub returns-clause-untold : goal.returns-clause-untold
returns-clause-untold c = untold

pub returns-clause-all : goal.returns-clause-all
returns-clause-all c = all_facts

pub returns-clause-each : goal.returns-clause-each
returns-clause-each c = each_fact
