-- Runs of one program over partitions.
use Rattle.std.specs.Prelude.{◌≡◌, ℕ, List}
use Rattle.cluster_run.specs.Asked.{Asks, Job}
use Rattle.command_words.specs.declared.words.RunOptions.{RunOptions}
use Rattle.flow_syntax.specs.Syntax.{Flows}

-- whatever the input files ask for, it is of these flows, under this digest
abbrev pub AsksUnder : RunOptions → (files : ℕ → List ℕ) → Flows → (digest : ℕ) → Type 0
AsksUnder options files flows digest = (job : Job) → Asks options.partitions options.nodes files job → (job.flows ≡ flows) × (job.digest ≡ digest)
