-- What the entries of logs make of states.
use Rattle.std.specs.Prelude.{◌≡◌, ◌+◌, Option, Some, None}
use Rattle.dura_value.specs.Items.{Entry}
use Rattle.dura_model.specs.Partition.{Partition}
use Rattle.part_steps.specs.declared.state.PartState.{PartState}
use Rattle.part_steps.specs.States.{IsSound, state_of, count_of}

-- Items made another state of the same entry, or one of them isn't accepted.
abbrev pub Makes : Option PartState → (old : PartState) → Option Partition → Type 0
Makes (Some new) old made = (made ≡ Some (state_of new)) × IsSound new × (count_of new ≡ count_of old)
    × ((state_of new).position ≡ (state_of old).position) × ((state_of new).incarnation ≡ (state_of old).incarnation) × ((state_of new).number ≡ (state_of old).number)
Makes None old made = made ≡ None

-- An entry made the next state, or it isn't accepted.
abbrev pub MakesEntry : Option PartState → (old : PartState) → Entry → Option Partition → Type 0
MakesEntry (Some new) old entry made = (made ≡ Some (state_of new)) × IsSound new × (count_of new ≡ count_of old)
    × ((state_of new).position ≡ (state_of old).position + 1) × ((state_of new).incarnation ≡ entry.incarnation) × ((state_of new).number ≡ (state_of old).number)
MakesEntry None old entry made = made ≡ None
