-- What a call hears of the clock, and when it begins.
use Rattle.std.specs.Prelude.{◌≡◌, ◌≤◌, ◌<◌, ℕ, max, List, [], ◌∷◌, ◌++◌}
use Rattle.std.specs.List.{All}
use Rattle.engine_rounds.specs.declared.serving.Came.{Came}
use Rattle.engine_rounds.specs.declared.serving.Came.TheVariants as cames
use Rattle.gated_store.specs.declared.local.Gated as gated_types
use Rattle.gated_store.specs.declared.store.GatedStore.{GatedStore}
use Rattle.hub_store.specs.Changes.{trail_in}
use Rattle.hub_store.specs.Trail.{Settled}
use Rattle.hub_store.specs.declared.start.Start as starts
use Rattle.many_rules.specs.Rules.{Rules}
use Rattle.node_core.specs.Growing.{IsStamped}
use Rattle.node_core.specs.declared.halt.Halt.TheVariants as halts
use Rattle.round_steps.specs.Labels.{settled_labels}
use Rattle.site_model.specs.Readings.{Reading, asked, stamp_of}
use Rattle.site_model.specs.declared.site.Site as sites

-- How it goes on by its clock, from what the clock gave, the greatest moment heard of and what was settled: the clock gives one reading more,
-- of which it hears, where fewer labels were settled than are enough; or more is settled, all of it at the greatest moment heard of. So no
-- delivery or timer is before one that was settled before it, of whatever partition, as far as that one wasn't at a stamp that the logs had at
-- the beginning; and once as many labels were settled as are enough no later moment comes.
pub data GoesByClock (rules : Rules) (enough : ℕ) (given : List Reading) (latest : ℕ) (trail : List Settled) : List Reading → ℕ → List Settled → Type 0 where
  begins : GoesByClock rules enough given latest trail given latest trail
  hears : {readings : List Reading} {moment : ℕ} {settled : List Settled} → GoesByClock rules enough given latest trail readings moment settled → settled_labels settled < enough → (reading : Reading) → GoesByClock rules enough given latest trail (reading ∷ readings) (max moment (stamp_of reading)) settled
  settles : {readings : List Reading} {moment : ℕ} {settled : List Settled} → GoesByClock rules enough given latest trail readings moment settled → (more : List Settled) → All (IsStamped rules moment moment) more → GoesByClock rules enough given latest trail readings moment (settled ++ more)

-- so a store went, while the clock gave these
abbrev pub ByClock : {V L : Type 0} {G : sites.Ghosts V} {K : starts.Ghosts (gated_types.Gated L)} → Rules → (enough : ℕ) → (before : List Reading) → (old : GatedStore V L G K) → (now : List Reading) → (new : GatedStore V L G K) → Type 0
ByClock rules enough before old now new = GoesByClock rules enough before old.logs.latest (trail_in old.logs) now new.logs.latest (trail_in new.logs)

-- what the clock had given before a call and by its end, and the greatest stamp of all
pub record Heard : Type 0 where
  pub before : List Reading
  pub now : List Reading
  pub latest : ℕ

abbrev pub heard_of : (before now : List Reading) → (latest : ℕ) → Heard
heard_of before now latest = record { before = before; now = now; latest = latest }

-- The moment at which a call begins: the clock gave it first in the call, which went by it from then on. Or the clock failed before it gave
-- one, and nothing was settled.
pub data BeginsAt (rules : Rules) (enough : ℕ) (heard : Heard) (trail : List Settled) (came : Came) : (since : ℕ) → Type 0 where
  first_given : (since by : ℕ) → by ≤ heard.latest → GoesByClock rules enough (asked since ∷ heard.before) since [] heard.now by trail → BeginsAt rules enough heard trail came since
  none_given : heard.now ≡ heard.before → trail ≡ [] → came ≡ cames.Halted halts.ClockFault → BeginsAt rules enough heard trail came 0
