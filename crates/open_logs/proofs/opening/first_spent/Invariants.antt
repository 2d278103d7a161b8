use Rattle.open_logs.specs.Spent.{AreYoung}
use Rattle.open_logs.proofs.opening.first_spent.Given as goal

-- none of the lives so far is spent
abbrev pub invariant-places : goal.invariant-places
invariant-places l = AreYoung l.place l.lives
