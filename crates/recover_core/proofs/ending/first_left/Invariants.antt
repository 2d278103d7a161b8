use Rattle.recover_core.specs.Ended.{EndsBelow}
use Rattle.recover_core.proofs.ending.first_left.Given as goal

-- the logs so far ended
abbrev pub invariant-places : goal.invariant-places
invariant-places l = EndsBelow l.place l.courses
