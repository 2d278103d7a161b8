-- What a run over many partitions comes to.
use Rattle.std.specs.Prelude.{◌≡◌, ◌⊎◌, ℕ, true, List, [], Option, Some, None}
use Rattle.call_begins.specs.Begins.{call_rules}
use Rattle.client_port.specs.Ports.{Queue}
use Rattle.cluster_run.specs.Asked.{Job, Asks}
use Rattle.cluster_run.specs.Causes.{WentBy, cause_of_open}
use Rattle.cluster_run.specs.Served.{HasServed}
use Rattle.command_words.specs.declared.words.RunOptions.{RunOptions}
use Rattle.engine_rounds.specs.Heard.{Heard}
use Rattle.engine_rounds.specs.Served.{IsServed, refusal_in}
use Rattle.engine_rounds.specs.declared.serving.Came.{Came}
use Rattle.hub_store.specs.Trail.{Settled}
use Rattle.log_files.specs.Fronts.{AreSyncs}
use Rattle.many_logs.specs.Placing.{Commit}
use Rattle.many_logs.specs.Stands.{AreKept}
use Rattle.open_logs.specs.Moments.{OpensOnly}
use Rattle.open_logs.specs.Spent.{AreRefused, OnlySynced, WhyUnopened}
use Rattle.open_logs.specs.declared.error.OpenError.{OpenError}
use Rattle.run_causes.specs.declared.cause.Cause.{Cause}
use Rattle.run_causes.specs.declared.cause.Cause.TheVariants.{BadFlows, BadRequests, Clash, BadPlan, TooLong, Damaged, Illegal, Unclosed, OtherShape, OtherFlows}
use Rattle.run_inputs.specs.Input.{RefusesInput}
use Rattle.run_inputs.specs.Refusal.{refusal_of}
use Rattle.site_model.specs.History.{Step}

-- The input files were refused for this, or one of them couldn't be read: nothing happened.
pub record NotRead (options : RunOptions) (files : ℕ → List ℕ) (old new : List Step) (trail : List Settled) (cause : Cause) : Type 0 where
  pub why : RefusesInput (refusal_of options.partitions options.nodes files) cause
  pub same : new ≡ old
  pub nothing : trail ≡ []

-- The logs weren't opened, for this: nothing was said or settled, nothing was written but by a disk that failed or where memory ran out, and
-- a crash leaves what it could have left at the start, or files that keep the same entries.
pub record NotOpened (options : RunOptions) (files : ℕ → List ℕ) (old new : List Step) (trail : List Settled) (cause : Cause) : Type 0 where
  pub job : Job
  pub asks : Asks options.partitions options.nodes files job
  pub error : OpenError
  pub cause_is : cause ≡ cause_of_open error
  pub why : WhyUnopened job.flows options.partitions job.digest files job.requests error
  pub synced : OnlySynced options.partitions old new error
  pub opening : OpensOnly job.flows options.partitions job.digest old new
  pub nothing : trail ≡ []

-- The clients were served, and it ended for this. Where nothing is possible any more, what the files kept and what was settled have served
-- the requests, or all but those that wait.
pub record WasServed (options : RunOptions) (files : ℕ → List ℕ) (heard : Heard) (tells : Type 0) (old new : List Step) (trail : List Settled) (cause : Cause) : Type 0 where
  pub job : Job
  pub asks : Asks options.partitions options.nodes files job
  pub came : Came
  pub port : Option (List Queue)
  pub went : refusal_in came ≡ None
  pub served : IsServed job.flows options.partitions job.digest options.segment options.batch options.steps job.requests heard tells old new trail came port
  pub cause_by : WentBy came port cause
  pub serves : tells → (kept : List Commit) → AreKept job.flows options.partitions job.digest files kept
      → HasServed (call_rules job.flows options.partitions served.begun served.run served.since options.batch job.requests true) trail cause

-- what a run with these options comes to, by what its files held at the start
abbrev pub ComesTo : RunOptions → (files : ℕ → List ℕ) → Heard → (tells : Type 0) → (old new : List Step) → List Settled → Cause → Type 0
ComesTo options files heard tells old new trail cause = NotRead options files old new trail cause ⊎ (NotOpened options files old new trail cause ⊎ WasServed options files heard tells old new trail cause)

-- the files are to be refused
pub data AreUnfit (options : RunOptions) (files : ℕ → List ℕ) : Type 0 where
  for_input : (cause : Cause) → refusal_of options.partitions options.nodes files ≡ Some cause → AreUnfit options files
  for_logs : (job : Job) → Asks options.partitions options.nodes files job → AreRefused job.flows options.partitions job.digest files job.requests → AreUnfit options files

-- nothing was written, said or settled: log files may have been synced
pub record LeavesLogs (count : ℕ) (old new : List Step) (trail : List Settled) : Type 0 where
  pub syncs : AreSyncs count old new
  pub nothing : trail ≡ []

-- A refusal writes nothing, and says nothing: log files may have been synced, and not even that where an input file is refused.
abbrev pub KeepsFiles : (count : ℕ) → (old new : List Step) → Cause → Type 0
KeepsFiles count old new (BadFlows fault) = new ≡ old
KeepsFiles count old new (BadRequests line) = new ≡ old
KeepsFiles count old new (BadPlan place) = new ≡ old
KeepsFiles count old new (TooLong file) = new ≡ old
KeepsFiles count old new (Clash client number) = AreSyncs count old new
KeepsFiles count old new (Damaged file offset) = AreSyncs count old new
KeepsFiles count old new (OtherShape found asked) = AreSyncs count old new
KeepsFiles count old new (OtherFlows found given) = AreSyncs count old new
KeepsFiles count old new (Illegal partition position) = AreSyncs count old new
KeepsFiles count old new (Unclosed partition position src seq) = AreSyncs count old new
KeepsFiles count old new other = Unit {0}
