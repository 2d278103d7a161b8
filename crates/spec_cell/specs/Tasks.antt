-- The tasks that a cell gives out.
use Rattle.std.specs.Prelude.{◌≡◌, ℕ, Bool, true, false, is_some, List, [], ◌∷◌, Option, Some, None}
use Rattle.cell_tasks.specs.Tasks.{is_out, none_out, is_due, AllOut, IsAhead}
use Rattle.cell_tasks.specs.declared.given_out.GivenOut.{GivenOut}
use Rattle.dura_model.specs.Partition.{Partition}
use Rattle.dura_value.specs.ById.{at_number}
use Rattle.dura_value.specs.Ids.{Id}
use Rattle.dura_value.specs.Items.{Item, Entry, ended}
use Rattle.dura_value.specs.Views.{id_of}
use Rattle.shared_maps.specs.Order.{IsFirst}
use Rattle.part_rows.specs.Views.{activity_of}
use Rattle.spec_cell.specs.declared.tasks.Task.{Task}

-- whether a task's activity is pending
abbrev pub pending_in : Partition → Id → ℕ → Bool
pending_in p id task = is_some (p.activities id task)

-- what was given out, but for the tasks whose outcome is among these items
abbrev pub without_ended : (Id → ℕ → Bool) → List Item → Id → ℕ → Bool
without_ended out [] = out
without_ended out (ended id task outcome ∷ items) = without_ended (at_number out id task false) items
without_ended out (other ∷ items) = without_ended out items

abbrev pub without_settled : (Id → ℕ → Bool) → List Entry → Id → ℕ → Bool
without_settled out [] = out
without_settled out (e ∷ entries) = without_settled (without_ended out e.items) entries

-- whether a cell gave a task out; without a state none is
abbrev pub given_by : Option GivenOut → Id → ℕ → Bool
given_by None = none_out
given_by (Some given) = is_out given

-- each task that is pending up to where a look begins is out
abbrev pub StandsAhead : Partition → GivenOut → Type 0
StandsAhead p given = IsAhead given (pending_in p)

-- The first pending activity that isn't out, or that there is none.
abbrev pub Finds : Partition → GivenOut → Option Task → Type 0
Finds p given None = AllOut (pending_in p) given
Finds p given (Some found) = IsFirst (is_due (pending_in p) given) (id_of found.id) found.task × (p.activities (id_of found.id) found.task ≡ Some (activity_of found.activity))

-- It is out from then on.
abbrev pub Gives : Partition → (old : GivenOut) → Option Task → (new : GivenOut) → Type 0
Gives p old None new = AllOut (pending_in p) old × (new ≡ old)
Gives p old (Some found) new = Finds p old (Some found) × (is_out new ≡ at_number (is_out old) (id_of found.id) found.task true)
