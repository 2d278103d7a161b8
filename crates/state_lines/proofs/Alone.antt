-- One state is the states of all partitions where there is one, and shows what it shows by itself.
use Rattle.std.proofs.Common.{◌≡◌, ℕ, zero, suc, ◌<◌, [], ◌∷◌, slice_index_or, refl, arith}
use Rattle.dura_model.specs.Entries.{shown_by}
use Rattle.dura_model.specs.Partition.{shown}
use Rattle.dura_model.proofs.Alone.{shown_alone}
use Rattle.flow_syntax.specs.Syntax.{Flows}
use Rattle.part_steps.specs.States.{AreStatesOfAll, IsSound, IsStateOf, parts_in, state_of, count_of}
use Rattle.part_steps.specs.declared.state.PartState.{PartState}

module _ (state : PartState) (sound : IsSound state) (among : count_of state ≡ 1) where
  first_place : (state_of state).number ≡ 0
  first_place = let below = sound.below in omega arith

  each_place : (place : ℕ) (d : PartState) → place < 1 → IsStateOf 1 place (slice_index_or (state ∷ []) place d)
  each_place zero d inside = record { sound = sound; among = among; number = first_place }
  each_place (suc place) d inside = absurd (omega arith)

  pub one_is_all : AreStatesOfAll (state ∷ [])
  one_is_all = record { some = omega arith; each = each_place }

pub one_shows : (flows : Flows) (state : PartState) → shown flows 1 (parts_in (state ∷ [])) ≡ shown_by flows (state_of state)
one_shows flows state = shown_alone flows (parts_in (state ∷ [])) (state_of state) refl
