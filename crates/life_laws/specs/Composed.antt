-- What was settled in a life, and the run that it is.
use Rattle.std.specs.Prelude.{◌≡◌, ℕ, List, ◌++◌, Some}
use Rattle.std.specs.List.{slice_get}
use Rattle.dura_model.specs.Legal.{Legal}
use Rattle.dura_model.specs.Partition.{Partition, fresh, shown}
use Rattle.dura_model.specs.Placed.{AreShown}
use Rattle.hub_store.specs.Trail.{Settled}
use Rattle.many_logs.specs.Labels.{labels_of_commits, AllGiven}
use Rattle.many_logs.specs.Placing.{Commit, AllBelow, states_after}
use Rattle.many_rules.specs.Rules.{Rules, commits_of}
use Rattle.spec_cell.specs.Views.{CellView, IsBase}

-- what was recovered, then what was settled
abbrev pub run_of : Rules → List Settled → List Commit
run_of rules trail = rules.recovered ++ commits_of trail

-- The settled states of the cells are what the run makes, and they show a world. Where it is of partitions that there are, and each
-- outcome in it is one that its activity may give, the run is legal and comes to that world.
pub record ShowsRun (rules : Rules) (trail : List Settled) (cells : List CellView) : Type 0 where
  pub states : ℕ → Partition
  pub made : states_after rules.flows rules.count fresh (run_of rules trail) ≡ Some states
  pub show : AreShown rules.count states
  pub bases : (partition : ℕ) (c : CellView) → slice_get cells partition ≡ Some c → IsBase rules.flows rules.count (rules.begin partition) c (states partition)
  pub legal : AllBelow rules.count (run_of rules trail) → AllGiven rules.flows rules.count fresh (run_of rules trail) → Legal rules.flows (labels_of_commits (run_of rules trail)) (shown rules.flows rules.count states)
