-- A batch that goes on.
use Rattle.std.specs.Prelude.{◌≡◌, ℕ, true, [], ◌∷◌, ◌++◌, map, Some}
use Rattle.dura_value.specs.Items.{Item}
use Rattle.flow_syntax.specs.Syntax.{Flows}
use Rattle.log_items.specs.Plain.{items_of}
use Rattle.dura_model.specs.Partition.{accepted}
use Rattle.part_steps.specs.declared.batch.Batch.{Batch}
use Rattle.part_steps.specs.declared.batch.Turn.{Turn}
use Rattle.part_steps.specs.declared.batch.Turn.TheVariants as turns
use Rattle.part_steps.specs.Enabled.{stamp_at, is_at, NoneEnabled}
use Rattle.part_steps.specs.Outputs.{outputs_by, outputs_of}
use Rattle.part_steps.specs.States.{IsSound, state_of, count_of}

-- it has one item more, a delivery or a timer at this stamp, which its state accepts
pub record HasMore (flows : Flows) (now : ℕ) (old new : Batch) : Type 0 where
  pub item : Item
  pub at : is_at item (stamp_at (state_of old.state) now) ≡ true
  pub items : items_of new.items.items ≡ items_of old.items.items ++ item ∷ []
  pub outputs : map outputs_of new.outputs.items ≡ map outputs_of old.outputs.items ++ outputs_by flows (state_of old.state) item ∷ []
  pub taken : accepted flows (count_of old.state) (state_of old.state) item ≡ Some (state_of new.state)
  pub partitions : count_of new.state ≡ count_of old.state
  pub position : (state_of new.state).position ≡ (state_of old.state).position
  pub sound : IsSound new.state

-- nothing more is possible, and it is as it was
pub record IsOver (flows : Flows) (now : ℕ) (old new : Batch) : Type 0 where
  pub same : new ≡ old
  pub none : NoneEnabled flows (count_of old.state) (state_of old.state) (stamp_at (state_of old.state) now)

abbrev pub BatchGoesOn : Flows → ℕ → Batch → Turn → Type 0
BatchGoesOn flows now old (turns.More new) = HasMore flows now old new
BatchGoesOn flows now old (turns.Over new) = IsOver flows now old new
