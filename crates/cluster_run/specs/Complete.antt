-- How a run may end where nothing is wrong with its files, and the outside doesn't fail.
use Rattle.std.specs.Prelude.{◌≡◌, ◌<◌, ◌+◌, ◌^◌, ℕ, List}
use Rattle.cluster_run.specs.Asked.{Job, Asks}
use Rattle.cluster_run.specs.Faults.{Faults}
use Rattle.command_words.specs.declared.words.RunOptions.{RunOptions}
use Rattle.open_laws.specs.Standing.{StandFor}
use Rattle.run_causes.specs.declared.cause.Cause.{Cause}
use Rattle.run_causes.specs.declared.cause.Cause.TheVariants.{Done, Waiting, Long, Memory, Full, Spent}

-- The input files are by their grammars, for so many partitions and nodes; and the log files stand for a run under their flows, of as many
-- partitions, in which nothing clashes with their requests.
pub record AreFit (options : RunOptions) (files : ℕ → List ℕ) : Type 0 where
  pub job : Job
  pub asks : Asks options.partitions options.nodes files job
  pub stand : StandFor job.flows options.partitions job.digest files job.requests

-- a count of faults is not yet the last number that it can hold
abbrev pub HasRoom : (count : ℕ) → Type 0
HasRoom count = count + 1 < 2 ^ 64

-- Nothing failed: no count rose, and each would have shown it.
pub record NoneRose (old new : Faults) : Type 0 where
  pub same : new ≡ old
  pub disk : HasRoom old.disk
  pub tape : HasRoom old.tape
  pub clock : HasRoom old.clock

-- it lies neither with files nor with the outside: nothing is possible any more, as many labels were settled as may be, memory ran out, or a log
-- or its partition's numbers are used up
abbrev pub IsSound : Cause → Type 0
IsSound Done = Unit {0}
IsSound (Waiting client number) = Unit {0}
IsSound (Long labels) = Unit {0}
IsSound Memory = Unit {0}
IsSound (Full partition length) = Unit {0}
IsSound (Spent partition number) = Unit {0}
IsSound other = ⊥
