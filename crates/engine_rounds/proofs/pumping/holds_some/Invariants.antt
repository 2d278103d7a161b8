use Rattle.std.specs.Prelude.{◌≡◌, ◌<◌, ℕ, [], Some}
use Rattle.std.specs.List.{slice_get}
use Rattle.spec_cell.specs.Views.{CellView}
use Rattle.engine_rounds.proofs.pumping.holds_some.Given as goal

-- the cells before this one hold nothing
abbrev pub invariant-parts : goal.invariant-parts
invariant-parts g l = (p : ℕ) (c : CellView) → slice_get l.fn.cells p ≡ Some c → p < l.part → c.entries ≡ []
