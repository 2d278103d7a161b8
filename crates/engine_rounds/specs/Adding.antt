-- What pumping adds.
use Rattle.std.specs.Prelude.{◌≡◌, ◌<◌, ℕ, ◌+◌, true, List, Option, Some, None, slice_get}
use Rattle.engine_rounds.specs.declared.pumping.Pumped.{Pumped}
use Rattle.engine_rounds.specs.declared.pumping.Pumped.TheVariants as pumped
use Rattle.hub_store.specs.Trail.{Settled}
use Rattle.node_core.specs.Stops.{has_stopped}
use Rattle.node_core.specs.declared.crew.Crew.{Crew}
use Rattle.round_steps.specs.Labels.{settled_labels}

-- one of the partitions is on a node that has stopped by so many turns of the store
abbrev pub HasLostNode : Crew → (turns : ℕ) → Type 0
HasLostNode crew turns = (partition node : ℕ) × (slice_get crew.owners.items partition ≡ Some node) × (has_stopped crew.plan.stops.items node turns ≡ true)

-- so many labels more were settled, at least one; or none, as nothing is possible any more, or a node stopped
abbrev pub Adds : (before now : List Settled) → Pumped → Type 0
Adds before now (pumped.Labels more) = (0 < more) × (settled_labels now ≡ settled_labels before + more)
Adds before now pumped.Rest = settled_labels now ≡ settled_labels before
Adds before now pumped.Stopped = settled_labels now ≡ settled_labels before

-- the same, or none was so far
abbrev pub MayAdd : (before now : List Settled) → Option Pumped → Type 0
MayAdd before now None = settled_labels now ≡ settled_labels before
MayAdd before now (Some come) = Adds before now come
