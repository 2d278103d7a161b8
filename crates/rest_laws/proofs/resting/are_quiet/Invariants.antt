use Rattle.std.proofs.Common.{ℕ, ◌<◌, map}
use Rattle.part_steps.specs.Quiet.{IsQuiet}
use Rattle.part_steps.specs.States.{parts_in}
use Rattle.rest_laws.proofs.resting.are_quiet.Given as goal

-- nothing is possible in those so far
abbrev pub invariant-loop-state : goal.invariant-loop-state
invariant-loop-state l = (k : ℕ) → k < l.state-index → IsQuiet (parts_in (map (λ s. s.now) l.states) k)
