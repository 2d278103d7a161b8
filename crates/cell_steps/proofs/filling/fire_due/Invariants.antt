use Rattle.std.proofs.Common.{◌≤◌, ◌-◌, List, length, max}
use Rattle.cell_waits.specs.Waits.{Waiting}
use Rattle.cell_steps.specs.Fills.{IsUnderWay, LooksOn}
use Rattle.cell_steps.proofs.filling.fire_due.Given as goal

-- timers were fired
abbrev pub invariant-fires : goal.invariant-fires
invariant-fires g l = record {
  way : IsUnderWay l.filling;
  on : (waits : List Waiting) → LooksOn (g.R.Reactions.flows l.reactions) l.now l.fn.filling l.filling waits waits;
  few : length l.filling.items.items ≤ max (length l.fn.filling.items.items) l.limit;
}

abbrev pub decreases-fires : goal.decreases-fires
decreases-fires g l = l.limit - length l.filling.items.items
