-- What a call promises, however it ends.
use Rattle.std.specs.Prelude.{◌≡◌, ℕ, List, [], Option, Some, None}
use Rattle.cluster_run.specs.Causes.{IsRefusal}
use Rattle.cluster_run.specs.Comes.{AreUnfit, ComesTo, KeepsFiles, LeavesLogs}
use Rattle.command_words.specs.Command.{call_in}
use Rattle.command_words.specs.declared.words.Call.{Call}
use Rattle.command_words.specs.declared.words.Call.TheVariants.{Run, Show}
use Rattle.command_words.specs.declared.words.RunOptions.{RunOptions}
use Rattle.engine_rounds.specs.Heard.{Heard}
use Rattle.engine_run.specs.Showing.{ShowsAs, WritesNothing}
use Rattle.hub_store.specs.Trail.{Settled}
use Rattle.run_causes.specs.declared.cause.Cause.{Cause}
use Rattle.site_model.specs.History.{Step, content_of, tape}

-- a call that settles nothing, by what its words ask for and why it ended: one that isn't a run, and one that refuses
abbrev pub SettlesNothing : Option Call → Cause → Type 0
SettlesNothing None cause = Unit {0}
SettlesNothing (Some (Show partitions)) cause = Unit {0}
SettlesNothing (Some (Run options)) cause = IsRefusal cause

-- What a call with these words promises, by the history when it began and when it ended, by what it heard of the clock, by what it settled and
-- by why it ended. `tells` is that each answer of the outside agreed with the history.
pub record Promises (words : List (List ℕ)) (tells : Type 0) (old new : List Step) (heard : Heard) (trail : List Settled) (cause : Cause) : Type 0 where
  -- where the words ask for nothing, nothing happens
  pub idle : call_in words ≡ None → new ≡ old
  pub settles_nothing : SettlesNothing (call_in words) cause → trail ≡ []
  -- At every moment of a run, inside each call of the site too, a crash leaves files that stand for a legal run of the failure-free machine: the
  -- one at the start, in whatever order what the files kept was accepted, then what is settled by then, then no more than one frame of each
  -- partition, whose gate is being written; and what was said by then answers requests as that run does. Or the files are refused, and stay as
  -- they are. And why it ends.
  pub comes : tells → (options : RunOptions) → call_in words ≡ Some (Run options) → ComesTo options (λ file. content_of file old) heard tells old new trail cause
  -- a refusal writes and says nothing
  pub keeps : (options : RunOptions) → call_in words ≡ Some (Run options) → KeepsFiles options.partitions old new cause
  -- where the files are to be refused nothing is written, said or settled, whatever the cause
  pub unfit : tells → (options : RunOptions) → call_in words ≡ Some (Run options) → AreUnfit options (λ file. content_of file old) → LeavesLogs options.partitions old new trail
  -- what is shown, and that nothing is written then
  pub shows : tells → (partitions : ℕ) → call_in words ≡ Some (Show partitions) → ShowsAs (λ file. content_of file old) partitions (tape old) (tape new) cause
  pub writes_nothing : (partitions : ℕ) → call_in words ≡ Some (Show partitions) → WritesNothing partitions old new
