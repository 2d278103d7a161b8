-- What was settled stays so, and what comes behind it is of the moments at which it came.
use Rattle.std.specs.Prelude.{◌≡◌, ◌≤◌, ℕ, max, List, ◌++◌, length}
use Rattle.std.specs.List.{All}
use Rattle.gated_store.specs.declared.local.Gated as gated_types
use Rattle.gated_store.specs.declared.store.GatedStore.{GatedStore}
use Rattle.hub_store.specs.Changes.{trail_in}
use Rattle.hub_store.specs.Trail.{Settled}
use Rattle.hub_store.specs.declared.start.Start as starts
use Rattle.many_rules.specs.Rules.{Rules, IsFrom}
use Rattle.run_rules.specs.Rules.{IsBy}
use Rattle.site_model.specs.declared.site.Site as sites

-- It has no more items than an entry may have, and none of them is of an earlier stamp than the first of these moments, or of a later one than
-- both the last and what its partition began with. Where the clock isn't behind the log, and both moments are one, each delivery and timer is
-- at just that moment.
pub record IsStamped (rules : Rules) (first last : ℕ) (one : Settled) : Type 0 where
  pub few : length one.entry.items ≤ rules.most
  pub from : All (IsFrom first) one.entry.items
  pub by : All (IsBy (max (rules.begin one.partition).stamp last)) one.entry.items

-- all that was settled before is settled still, and more may have come behind it, between these moments
pub record Grows (rules : Rules) (first last : ℕ) (old new : List Settled) : Type 0 where
  pub in_order : first ≤ last
  pub more : List Settled
  pub is : new ≡ old ++ more
  pub stamped : All (IsStamped rules first last) more

-- What a store has settled since, between the moments that it had heard of before and by then.
pub record GrowsOn {V L : Type 0} {G : sites.Ghosts V} {K : starts.Ghosts (gated_types.Gated L)} (rules : Rules) (old new : GatedStore V L G K) : Type 0 where
  pub grows : Grows rules old.logs.latest new.logs.latest (trail_in old.logs) (trail_in new.logs)
