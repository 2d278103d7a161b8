-- What a partition may commit by its own state alone.
use Rattle.std.specs.Prelude.{◌≡◌, ◌<◌, ℕ, ◌+◌, List, length, Ok}
use Rattle.std.specs.List.{All}
use Rattle.dura_model.specs.Entries.{placed, AllGiven}
use Rattle.dura_model.specs.Partition.{Partition}
use Rattle.dura_value.specs.Items.{Entry}
use Rattle.hub_store.specs.Trail.{Said}
use Rattle.many_logs.specs.Labels.{state_next}
use Rattle.many_logs.specs.Placing.{of_partition}
use Rattle.many_rules.specs.Rules.{Rules, IsOurs, HaveRun, pairs_of}
use Rattle.part_items.specs.Numbered.{IsNumbered}

-- Entries of a partition that may be committed behind these of its own, by its own state, where the clock gave no later stamp than this:
-- they stand behind all that it has and are of no earlier incarnation, each is accepted in the state that those before it make, each
-- outcome is one that its activity may give, and, where the call serves clients, one of an activity that is pending already where all is
-- settled, and they are this call's.
pub record Makes (rules : Rules) (latest : ℕ) (mine : List Entry) (told : List Said) (partition : ℕ) (going : List Entry) : Type 0 where
  pub below : partition < rules.count
  pub before : Partition
  pub made : placed rules.flows rules.count (rules.begin partition) mine ≡ Ok before
  pub number : before.number ≡ partition
  pub position : before.position ≡ length (of_partition partition rules.recovered) + length mine
  pub numbered : IsNumbered (state_next before) going
  pub after : Partition
  pub accepted : placed rules.flows rules.count before going ≡ Ok after
  pub given : AllGiven rules.flows rules.count before going
  pub pending : HaveRun rules before going
  pub ours : All (IsOurs rules latest (pairs_of told) partition) going
