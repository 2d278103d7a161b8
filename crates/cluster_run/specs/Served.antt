-- What a run over partitions has done for its requests where nothing is possible any more.
use Rattle.std.specs.Prelude.{ℕ, List}
use Rattle.dura_model.specs.World.{World}
use Rattle.end_laws.specs.Served.{AllServed, Awaits, IsWorldAfter}
use Rattle.hub_store.specs.Trail.{Settled}
use Rattle.many_rules.specs.Rules.{Rules}
use Rattle.run_causes.specs.declared.cause.Cause.{Cause}
use Rattle.run_causes.specs.declared.cause.Cause.TheVariants.{Done, Waiting}

-- What was recovered and then settled is a legal run to a world in which nothing is left to do for any request: where it is done each has its
-- answer, and where it waits this is the first without one.
abbrev pub HasServed : Rules → List Settled → Cause → Type 0
HasServed rules trail Done = (w : World) × IsWorldAfter rules trail w × AllServed rules.flows rules.requests w
HasServed rules trail (Waiting name number) = (w : World) × IsWorldAfter rules trail w × Awaits rules.flows rules.requests w name number
HasServed rules trail other = Unit {0}
