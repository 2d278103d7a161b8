use Rattle.engine_rounds.proofs.pumping.rest_of.Goals as goal

pub returns-in-Ok-true-clause-rest : goal.returns-in-Ok-true-clause-rest
returns-in-Ok-true-clause-rest g c = λ same. c.in-Ok-true.ensures.0 c.in-Ok-true.field-0-test
