-- Whether a partition accepts an item.
use Rattle.std.specs.Prelude.{◌≡◌, Option, Some, None}
use Rattle.dura_value.specs.declared.outputs.Outputs as seen
use Rattle.dura_model.specs.Partition.{Partition}
use Rattle.part_steps.specs.declared.state.PartState.{PartState}
use Rattle.part_steps.specs.States.{IsSound, state_of, count_of}
use Rattle.part_steps.specs.Outputs.{Outputs, outputs_of}
use Rattle.part_steps.specs.declared.state.Verdict.{Verdict}
use Rattle.part_steps.specs.declared.state.Verdict.TheVariants as verdicts

-- It accepts, has become this and made these outputs; or it refuses, and is as it was.
abbrev pub Applied : Option seen.Outputs → (old now : Partition) → Option Partition → Outputs → Type 0
Applied None old now wanted outputs = (wanted ≡ None) × (now ≡ old)
Applied (Some made) old now wanted outputs = (wanted ≡ Some now) × (outputs_of made ≡ outputs)

-- What came of an item: a sound state among as many and in the same entry, which is the one that it makes and with its outputs; or
-- the same state, where it isn't accepted.
abbrev pub Becomes : Verdict → (old : PartState) → Option Partition → Outputs → Type 0
Becomes (verdicts.Accepted state made) old wanted outputs = (wanted ≡ Some (state_of state)) × (outputs_of made ≡ outputs) × (count_of state ≡ count_of old) × ((state_of state).position ≡ (state_of old).position) × IsSound state
Becomes (verdicts.Refused state) old wanted outputs = (wanted ≡ None) × (state_of state ≡ state_of old) × (count_of state ≡ count_of old) × IsSound state
