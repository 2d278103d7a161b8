use Rattle.std.proofs.Common.{◌≤◌, take}
use Rattle.std.specs.List.{All}
use Rattle.dura_value.specs.Dependencies.{named_by, Ready}
use Rattle.spec_tracker.specs.Marks.{floors_of, length_in}
use Rattle.cell_steps.specs.Steps.{entries_in}
use Rattle.spec_cell.proofs.picking.count_ready.Given as goal

-- those before name only what is ready
abbrev pub invariant-loop-count : goal.invariant-loop-count
invariant-loop-count l = record { most : l.count ≤ l.most; ready : All (λ e. All (Ready (length_in l.marks) (floors_of l.marks)) (named_by e.items)) (entries_in (take l.count l.steps)) }
