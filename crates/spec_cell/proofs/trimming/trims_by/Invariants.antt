use Rattle.std.proofs.Common.{◌≡◌, take}
use Rattle.log_items.specs.Plain.{items_of}
use Rattle.part_steps.specs.States.{state_of}
use Rattle.spec_cell.specs.Trims.{trims_by}
use Rattle.spec_cell.proofs.trimming.trims_by.Given as goal

-- what the reads before let go of
abbrev pub invariant-loop-read : goal.invariant-loop-read
invariant-loop-read l = items_of l.trims.items ≡ trims_by (state_of l.state) (take l.read-index l.reads)
