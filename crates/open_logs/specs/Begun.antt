-- What a life begins with, whatever the disk tells.
use Rattle.std.specs.Prelude.{◌≡◌, ℕ, ◌≤◌, ◌<◌, ◌^◌, List, length, Some}
use Rattle.std.specs.List.{slice_get}
use Rattle.dura_model.specs.Entries.{next_incarnation}
use Rattle.dura_model.specs.Partition.{fresh}
use Rattle.flow_syntax.specs.Syntax.{Flows}
use Rattle.log_items.specs.Entries.{incarnations_in}
use Rattle.many_logs.specs.Labels.{AreNumbered}
use Rattle.many_logs.specs.Placing.{Commit, AllBelow, of_partition, states_after}
use Rattle.many_logs.specs.Stands.{asked_at}
use Rattle.open_logs.specs.declared.begun.Begun.{Begun}
use Rattle.part_items.specs.Logs.{logs_in, entries_in}
use Rattle.part_steps.specs.States.{AreStatesOfAll, parts_in}

-- There is a state, a log, a past and an incarnation of each partition. An entry of the incarnation that begins may begin in the state,
-- whose entries were counted by their incarnations.
pub record CanBegin (count : ℕ) (begun : Begun) : Type 0 where
  pub all : AreStatesOfAll begun.states.items
  pub states : length begun.states.items ≡ count
  pub logs : length begun.logs.items ≡ count
  pub pasts : length begun.pasts.items ≡ count
  pub incarnations : length begun.incarnations.items ≡ count
  pub young : (partition incarnation : ℕ) → slice_get begun.incarnations.items partition ≡ Some incarnation → incarnation < 2 ^ 62
  pub younger : (partition incarnation : ℕ) → slice_get begun.incarnations.items partition ≡ Some incarnation → (parts_in begun.states.items partition).incarnation ≤ incarnation
  pub counted : (partition : ℕ) (past : List ℕ) → slice_get begun.pasts.items partition ≡ Some past → (parts_in begun.states.items partition).position ≡ length past

-- These entries made the states, accepted in this order; of each partition the past has their incarnations, and the incarnation that
-- begins is the next one.
pub record MadeBy (flows : Flows) (count : ℕ) (begun : Begun) (run : List Commit) : Type 0 where
  pub below : AllBelow count run
  pub made : states_after flows count fresh run ≡ Some (parts_in begun.states.items)
  pub numbered : AreNumbered fresh run
  pub past : (partition : ℕ) (past : List ℕ) → slice_get begun.pasts.items partition ≡ Some past → past ≡ incarnations_in (of_partition partition run)
  pub incarnation : (partition incarnation : ℕ) → slice_get begun.incarnations.items partition ≡ Some incarnation → incarnation ≡ next_incarnation (of_partition partition run)

-- the files keep just these entries, each partition its own
abbrev pub AreTheirs : (count digest : ℕ) → (files : ℕ → List ℕ) → List Commit → Type 0
AreTheirs count digest files run = (partition : ℕ) → partition < count → entries_in (logs_in (asked_at count digest partition) files) ≡ Some (of_partition partition run)

-- some entries made them so; where the site tells, they are those that the files keep
abbrev pub IsMade : Flows → (count digest : ℕ) → (tells : Type 0) → (files : ℕ → List ℕ) → Begun → Type 0
IsMade flows count digest tells files begun = (run : List Commit) × MadeBy flows count begun run × (tells → AreTheirs count digest files run)
