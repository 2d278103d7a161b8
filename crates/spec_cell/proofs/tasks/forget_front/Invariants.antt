use Rattle.std.proofs.Common.{◌≡◌, take}
use Rattle.cell_tasks.specs.Tasks.{is_out}
use Rattle.cell_steps.specs.Steps.{entries_in}
use Rattle.spec_cell.specs.Tasks.{without_settled}
use Rattle.spec_cell.proofs.tasks.forget_front.Given as goal

-- the tasks of the entries before aren't out any more
abbrev pub invariant-loop-place : goal.invariant-loop-place
invariant-loop-place l = is_out l.given ≡ without_settled (is_out l.initial.given) (take l.place (entries_in l.steps))
