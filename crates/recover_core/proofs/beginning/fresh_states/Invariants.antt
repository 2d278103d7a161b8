use Rattle.std.proofs.Common.{◌≡◌, ℕ, Some, length}
use Rattle.std.specs.List.{slice_get}
use Rattle.part_steps.specs.declared.state.PartState.{PartState}
use Rattle.recover_core.proofs.FreshStates.{IsFresh}
use Rattle.recover_core.proofs.beginning.fresh_states.Given as goal

-- the states of the partitions so far
abbrev pub invariant-partitions : goal.invariant-partitions
invariant-partitions l = record {
  many : length l.states.items ≡ l.partition;
  each : (place : ℕ) (s : PartState) → slice_get l.states.items place ≡ Some s → IsFresh l.count place s;
}
