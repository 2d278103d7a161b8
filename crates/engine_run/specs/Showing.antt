-- What showing what is there answers, and says.
use Rattle.std.specs.Prelude.{◌≡◌, ◌⊎◌, ℕ, ◌<◌, List, [], Some}
use Rattle.cluster_run.specs.Causes.{cause_of_recovery}
use Rattle.dura_model.specs.Partition.{Partition, shown}
use Rattle.dura_value.specs.Items.{Entry}
use Rattle.flow_syntax.specs.Syntax.{Flows}
use Rattle.log_files.specs.Fronts.{AreSyncs}
use Rattle.many_logs.specs.Placing.{placed}
use Rattle.recover_core.specs.Recovering.{AreLogs, Refuses}
use Rattle.recover_core.specs.declared.error.RecoverError.{RecoverError}
use Rattle.recover_core.specs.declared.error.RecoverError.TheVariants as errors
use Rattle.run_causes.specs.declared.cause.Cause.{Cause}
use Rattle.run_causes.specs.declared.cause.Cause.TheVariants.{Done, BadFlows, TooLong, SiteFault, SayFault, Damaged, Illegal, Unclosed, OtherShape, OtherFlows, Memory}
use Rattle.run_inputs.specs.Input.{HasFlows}
use Rattle.run_inputs.specs.Refusal.{flows_refusal}
use Rattle.site_model.specs.History.{Step, changes_of}
use Rattle.state_lines.specs.Fronts.{SaysTable, StopsInTable}
use Rattle.state_lines.specs.declared.error.ShowError.TheVariants as stops

-- the logs of so many partitions are refused
pub record RefusesAs (flows : Flows) (count digest : ℕ) (files : ℕ → List ℕ) (cause : Cause) : Type 0 where
  pub error : RecoverError
  pub cause_is : cause ≡ cause_of_recovery error
  pub refuses : Refuses flows count digest files error

-- why logs are refused, or what may come at any time
abbrev pub IsLogCause : Cause → Type 0
IsLogCause SiteFault = Unit {0}
IsLogCause Memory = Unit {0}
IsLogCause (Damaged file offset) = Unit {0}
IsLogCause (Illegal partition position) = Unit {0}
IsLogCause (Unclosed partition position src seq) = Unit {0}
IsLogCause (OtherShape found asked) = Unit {0}
IsLogCause (OtherFlows found given) = Unit {0}
IsLogCause other = ⊥

-- The flows file has these flows, and all that the logs of so many partitions kept made these states.
pub record AreThere (files : ℕ → List ℕ) (count : ℕ) (flows : Flows) (states : ℕ → Partition) : Type 0 where
  pub digest : ℕ
  pub flows_in_file : HasFlows files flows digest
  pub logs : ℕ → List Entry
  pub kept : AreLogs count digest files logs
  pub none_left : (partition : ℕ) → partition < count → (placed flows count logs).left partition ≡ []
  pub made : states ≡ (placed flows count logs).states

-- the logs of so many partitions are refused for this
abbrev pub RefusesThere : (ℕ → List ℕ) → (count : ℕ) → RecoverError → Type 0
RefusesThere files count error = (flows : Flows) × (digest : ℕ) × HasFlows files flows digest × Refuses flows count digest files error

-- The cause by what the files held, and what was said: all of the table, its front, or nothing.
abbrev pub ShowsAs : (ℕ → List ℕ) → (count : ℕ) → (old new : List ℕ) → Cause → Type 0
ShowsAs files count old new Done = (flows : Flows) × (states : ℕ → Partition) × AreThere files count flows states × SaysTable flows (shown flows count states) old new
ShowsAs files count old new SayFault = (flows : Flows) × (states : ℕ → Partition) × AreThere files count flows states × StopsInTable flows (shown flows count states) stops.SayFault old new
ShowsAs files count old new Memory = (new ≡ old) ⊎ ((flows : Flows) × (states : ℕ → Partition) × AreThere files count flows states × StopsInTable flows (shown flows count states) stops.Memory old new)
ShowsAs files count old new SiteFault = new ≡ old
ShowsAs files count old new (BadFlows fault) = (flows_refusal files ≡ Some (BadFlows fault)) × (new ≡ old)
ShowsAs files count old new (TooLong file) = (flows_refusal files ≡ Some (TooLong file)) × (new ≡ old)
ShowsAs files count old new (Damaged file offset) = RefusesThere files count (errors.Damaged file offset) × (new ≡ old)
ShowsAs files count old new (OtherShape found asked) = RefusesThere files count (errors.OtherShape found asked) × (new ≡ old)
ShowsAs files count old new (OtherFlows found given) = RefusesThere files count (errors.OtherFlows found given) × (new ≡ old)
ShowsAs files count old new (Illegal partition position) = RefusesThere files count (errors.Illegal partition position) × (new ≡ old)
ShowsAs files count old new (Unclosed partition position src seq) = RefusesThere files count (errors.Unclosed partition position src seq) × (new ≡ old)
ShowsAs files count old new other = ⊥

-- nothing was written: the log files of so many partitions may have been synced, and lines may have been said
pub record WritesNothing (count : ℕ) (old new : List Step) : Type 0 where
  pub mid : List Step
  pub syncs : AreSyncs count old mid
  pub files : (file : ℕ) → changes_of file new ≡ changes_of file mid
