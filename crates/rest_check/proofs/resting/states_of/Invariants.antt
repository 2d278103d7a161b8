use Rattle.std.proofs.Common.{◌≡◌, ℕ, Some, length, map, slice_get}
use Rattle.rest_check.specs.Rest.{IsStateOfCell}
use Rattle.part_steps.specs.declared.state.PartState.{PartState}
use Rattle.spec_cell.specs.Views.{CellView}
use Rattle.rest_check.proofs.resting.states_of.Given as goal

-- those of the cells so far
abbrev pub invariant-cells : goal.invariant-cells
invariant-cells g l = record {
  many : length (map (λ s. s.now) l.states.items) ≡ l.cell-index;
  each : (p : ℕ) (s : PartState) → slice_get (map (λ s. s.now) l.states.items) p ≡ Some s → (c : CellView) × (slice_get l.cells p ≡ Some c) × IsStateOfCell g.M.Picked.rules c s;
}
