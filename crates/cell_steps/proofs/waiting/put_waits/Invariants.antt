use Rattle.std.proofs.Common.{length}
use Rattle.cell_waits.specs.Waits.{waits_of}
use Rattle.cell_steps.proofs.Queueing.{HasPut}
use Rattle.cell_steps.proofs.waiting.put_waits.Given as goal

-- some of what waits was looked at
abbrev pub invariant-waits : goal.invariant-waits
invariant-waits g l = HasPut (g.R.Reactions.flows l.reactions) l.limit l.fn.filling (waits_of l.initial.waits) l.filling l.waits

abbrev pub decreases-waits : goal.decreases-waits
decreases-waits g l = length (waits_of l.waits)
