use Rattle.hub_store.proofs.Behind.{AreLed}
use Rattle.hub_store.proofs.together.lead_on.Given as goal

abbrev pub invariant-loop-place : goal.invariant-loop-place
invariant-loop-place l = AreLed l.fn.safe l.fn.ways.items l.ways.items l.place
