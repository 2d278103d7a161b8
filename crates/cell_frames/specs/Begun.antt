-- Where a call begins, as far as it is known whatever the disk tells.
use Rattle.std.specs.Prelude.{◌≡◌, ◌<◌, ◌≤◌, ℕ, [], Some}
use Rattle.dura_model.specs.Partition.{fresh}
use Rattle.hub_store.specs.Frames.{goes_on}
use Rattle.hub_store.specs.Origin.{Origin}
use Rattle.many_logs.specs.Labels.{AreNumbered, state_next}
use Rattle.many_logs.specs.Placing.{AllBelow, states_after}
use Rattle.many_rules.specs.Rules.{Rules}
use Rattle.part_items.specs.Numbered.{Next}

-- A log goes on at the position where a state does, and in no later incarnation.
pub record GoesOnAt (log state : Next) : Type 0 where
  pub position : log.position ≡ state.position
  pub incarnation : log.incarnation ≤ state.incarnation

-- Entries were accepted in an order and made the states, each at the next position of its partition; each partition's log goes on where
-- its state does.
pub record HasBegun (o : Origin) (rules : Rules) : Type 0 where
  pub goes : (partition : ℕ) → partition < rules.count → GoesOnAt (goes_on (o.logs partition) []) (state_next (rules.begin partition))
  pub below : AllBelow rules.count rules.recovered
  pub made : states_after rules.flows rules.count fresh rules.recovered ≡ Some rules.begin
  pub numbered : AreNumbered fresh rules.recovered
