-- A cell gives a task out.
use Rattle.std.specs.Prelude.{◌≡◌, ◌&&◌, ℕ, Bool, true, false, not, Option, Some, None}
use Rattle.dura_model.specs.Partition.{Partition}
use Rattle.dura_value.specs.ById.{at_number}
use Rattle.dura_value.specs.Ids.{Id}
use Rattle.dura_value.specs.Views.{id_of}
use Rattle.shared_maps.specs.Order.{IsFirst}
use Rattle.part_rows.specs.Views.{activity_of}
use Rattle.spec_cell.specs.Tasks.{pending_in, given_by}
use Rattle.spec_cell.specs.Views.{CellView}
use Rattle.spec_cell.specs.declared.tasks.Task.{Task}

-- whether a task is to be run: its activity is pending in the settled state, and it isn't out
abbrev pub is_to_run : Partition → CellView → Id → ℕ → Bool
is_to_run base c id task = pending_in base id task && not (given_by c.given id task)

-- It gives the first that is to be run, which is out from then on; or there is none, and nothing changes.
abbrev pub GivesTask : Partition → (old : CellView) → Option Task → (new : CellView) → Type 0
GivesTask base old None new = ((id : Id) (task : ℕ) → is_to_run base old id task ≡ false) × (new ≡ old)
GivesTask base old (Some found) new =
    IsFirst (is_to_run base old) (id_of found.id) found.task × (base.activities (id_of found.id) found.task ≡ Some (activity_of found.activity))
    × (given_by new.given ≡ at_number (given_by old.given) (id_of found.id) found.task true) × (new ≡ record old { given = new.given })
