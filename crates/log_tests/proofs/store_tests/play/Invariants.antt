use Rattle.log_tests.specs.Stores.{IsAt}
use Rattle.log_tests.proofs.store_tests.play.Given as goal

-- the store is at its place
abbrev pub invariant-loop-line : goal.invariant-loop-line
invariant-loop-line g l = IsAt l.store l.place
