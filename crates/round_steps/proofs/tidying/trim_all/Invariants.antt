use Rattle.node_core.specs.Running.{IsRunning}
use Rattle.round_steps.proofs.tidying.trim_all.Given as goal

-- the call goes on
abbrev pub invariant-parts : goal.invariant-parts
invariant-parts g l = IsRunning g.M.Picked.origin g.M.Picked.rules l.store l.cells.items
