-- Where a life begins whose logs are opened.
use Rattle.std.specs.Prelude.{◌≡◌, ℕ, List}
use Rattle.flow_syntax.specs.Syntax.{Flows}
use Rattle.hub_store.specs.Opened.{HasBegun}
use Rattle.many_logs.specs.Placing.{Commit}
use Rattle.many_logs.specs.Stands.{AreKept}
use Rattle.many_rules.specs.Leaves.{Begins}
use Rattle.many_rules.specs.Rules.{Rules}
use Rattle.open_logs.specs.Begun.{MadeBy}
use Rattle.open_logs.specs.Picks.{origin_of}
use Rattle.open_logs.specs.declared.begun.Begun.{Begun}
use Rattle.part_steps.specs.States.{parts_in}
use Rattle.site_model.specs.History.{Step}

-- by these rules entries were recovered that the files keep, and the life goes on from the states
pub record BeginsBy (flows : Flows) (count digest : ℕ) (files : ℕ → List ℕ) (begun : Begun) (rules : Rules) : Type 0 where
  pub flows_are : rules.flows ≡ flows
  pub count_is : rules.count ≡ count
  pub states : rules.begin ≡ parts_in begun.states.items
  pub kept : AreKept flows count digest files rules.recovered

-- The logs rest as they are picked; by each run whose entries the files kept the life begins there, and that run made what it begins with.
pub record AllOpened (flows : Flows) (count digest : ℕ) (files : ℕ → List ℕ) (steps : List Step) (begun : Begun) : Type 0 where
  pub rests : HasBegun (origin_of count digest steps begun) steps begun.logs.items
  pub begins : (rules : Rules) → BeginsBy flows count digest files begun rules → Begins (origin_of count digest steps begun) rules digest
  pub made : (run : List Commit) → AreKept flows count digest files run → MadeBy flows count begun run
