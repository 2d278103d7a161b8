-- What was settled makes of the states that were recovered.
use Rattle.std.specs.Prelude.{◌≡◌, ◌<◌, ℕ, List, ◌++◌, Some, Ok}
use Rattle.dura_model.specs.Entries.{placed}
use Rattle.dura_model.specs.Partition.{Partition, fresh}
use Rattle.dura_model.specs.Placed.{AreShown}
use Rattle.hub_store.specs.Trail.{Settled, of_part}
use Rattle.many_logs.specs.Labels.{AreNumbered}
use Rattle.many_logs.specs.Placing.{states_after}
use Rattle.many_rules.specs.Rules.{Rules, commits_of}

-- What was settled made states in its order, from those that were recovered.
pub record HaveMade (rules : Rules) (trail : List Settled) : Type 0 where
  pub states : ℕ → Partition
  pub made : states_after rules.flows rules.count rules.begin (commits_of trail) ≡ Some states
  -- they show a world
  pub shown : AreShown rules.count states
  -- of each partition what was recovered and settled stands one position after another, and its incarnations never fall
  pub numbered : AreNumbered fresh (rules.recovered ++ commits_of trail)
  -- and its own entries alone make its state
  pub each : (p : ℕ) → p < rules.count → placed rules.flows rules.count (rules.begin p) (of_part p trail) ≡ Ok (states p)
