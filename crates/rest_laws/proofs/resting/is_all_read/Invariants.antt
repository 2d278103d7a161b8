use Rattle.std.proofs.Common.{ℕ, ◌<◌, map, length}
use Rattle.part_steps.specs.States.{parts_in}
use Rattle.rest_laws.specs.Rest.{HasRead}
use Rattle.rest_laws.proofs.resting.is_all_read.Given as goal

-- the streams from each so far were taken in
abbrev pub invariant-loop-source : goal.invariant-loop-source
invariant-loop-source l = (k : ℕ) → k < l.source → (reader : ℕ) → reader < length l.states → HasRead (parts_in (map (λ s. s.now) l.states)) k reader
