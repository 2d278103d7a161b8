use Rattle.part_steps.proofs.Batching.{Filled}
use Rattle.part_steps.proofs.batch.next_items.Given as goal

-- so many items were applied, one after the other
abbrev pub invariant-loop : goal.invariant-loop
invariant-loop g l = Filled (g.R.Reactions.flows l.fn.reactions) l.fn.now l.fn.state l.counter l.batch
