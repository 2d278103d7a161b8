-- Entries that aren't settled, each with the state after it.
use Rattle.std.specs.Prelude.{◌≡◌, ◌<◌, ◌≤◌, ◌^◌, List, [], ◌∷◌, length, map, Some}
use Rattle.std.specs.List.{All}
use Rattle.dura_model.specs.Entries.{entry_accepted, AreGiven}
use Rattle.dura_model.specs.Partition.{enter}
use Rattle.dura_value.specs.Items.{Entry}
use Rattle.flow_syntax.specs.Syntax.{Flows}
use Rattle.log_items.specs.Plain.{entry_of, items_of}
use Rattle.part_items.specs.ItemFits.{FitsItem}
use Rattle.part_steps.specs.States.{IsSound, state_of, count_of}
use Rattle.part_steps.specs.declared.state.PartState.{PartState}
use Rattle.cell_steps.specs.declared.step.Step.{Step}

-- An entry stands where a state goes on. Its numbers are below 2^62, it has 1 to 64 items that can be written, it is accepted there, each
-- outcome in it is one that its activity may give, and it makes the state after it.
pub record Makes (flows : Flows) (before : PartState) (s : Step) : Type 0 where
  pub position : s.entry.position ≡ (state_of before).position
  pub younger : (state_of before).incarnation ≤ s.entry.incarnation
  pub low : s.entry.position < 2 ^ 62
  pub early : s.entry.incarnation < 2 ^ 62
  pub accepted : entry_accepted flows (count_of before) (state_of before) (entry_of s.entry) ≡ Some (state_of s.after)
  pub given : AreGiven flows (count_of before) (enter s.entry.incarnation (state_of before)) (items_of s.entry.items)
  pub some : 0 < length s.entry.items
  pub few : length s.entry.items ≤ 64
  pub fit : All FitsItem (items_of s.entry.items)
  pub sound : IsSound s.after
  pub partitions : count_of s.after ≡ count_of before

-- each makes its state of the one before
abbrev pub AreSteps : Flows → PartState → List Step → Type 0
AreSteps flows before [] = Unit {0}
AreSteps flows before (s ∷ steps) = Makes flows before s × AreSteps flows s.after steps

-- the state after all of them
abbrev pub last_of : PartState → List Step → PartState
last_of before [] = before
last_of before (s ∷ steps) = last_of s.after steps

-- their entries
abbrev pub entries_in : List Step → List Entry
entries_in = map (λ s. entry_of s.entry)
