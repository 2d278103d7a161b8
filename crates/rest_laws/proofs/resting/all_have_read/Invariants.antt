use Rattle.std.proofs.Common.{ℕ, ◌<◌, map}
use Rattle.part_steps.specs.States.{parts_in}
use Rattle.rest_laws.specs.Rest.{HasRead}
use Rattle.rest_laws.proofs.resting.all_have_read.Given as goal

-- each so far has read it
abbrev pub invariant-loop-reader : goal.invariant-loop-reader
invariant-loop-reader l = (k : ℕ) → k < l.reader → HasRead (parts_in (map (λ s. s.now) l.states)) l.source k
