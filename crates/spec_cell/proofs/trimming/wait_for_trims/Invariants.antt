use Rattle.std.proofs.Common.{◌≡◌}
use Rattle.std.specs.Vec.Iter.{into_iter_items}
use Rattle.cell_waits.specs.Indices.{IsIndexed}
use Rattle.cell_waits.specs.Waits.{waits_of}
use Rattle.log_items.specs.Plain.{items_of}
use Rattle.spec_cell.specs.Trims.{with_trims}
use Rattle.spec_cell.proofs.trimming.wait_for_trims.Given as goal

-- what is left of the trims leads to where all wait
abbrev pub invariant-loop-item : goal.invariant-loop-item
invariant-loop-item l =
    (with_trims (waits_of l.waits) (items_of (into_iter_items l.item-iterator)) ≡ with_trims (waits_of l.initial.waits) (items_of l.fn.trims.items)) × IsIndexed l.waits
