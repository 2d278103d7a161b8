use Rattle.engine_rounds.proofs.driving.stop_long.Goals as goal

pub returns-in-Ok-true-clause-ends : goal.returns-in-Ok-true-clause-ends
returns-in-Ok-true-clause-ends g c = c.in-Ok-true.ensures.0 c.in-Ok-true.field-0-test
