-- Why logs aren't opened.
use Rattle.std.specs.Prelude.{◌≡◌, ℕ, ◌<◌, ◌≤◌, ◌^◌, List, [], length, Option, Some, None}
use Rattle.std.specs.List.{slice_get}
use Rattle.client_order.specs.Clashes.{Taken, taken_in, IsClash}
use Rattle.dura_model.specs.Entries.{next_incarnation}
use Rattle.dura_value.specs.Items.{Entry}
use Rattle.flow_syntax.specs.Syntax.{Flows}
use Rattle.log_files.specs.Fronts.{AreSyncs}
use Rattle.many_logs.specs.Placing.{placed}
use Rattle.open_logs.specs.declared.error.OpenError.{OpenError}
use Rattle.open_logs.specs.declared.error.OpenError.TheVariants.{Refused, Spent, Clash}
use Rattle.recover_core.specs.Recovering.{AreLogs, Refuses}
use Rattle.recover_core.specs.declared.ending.Life.{Life}
use Rattle.recover_core.specs.declared.error.RecoverError.TheVariants.{SiteFault, Memory}
use Rattle.request_reader.specs.Line.{Request}
use Rattle.site_model.specs.History.{Step}

-- All entries of all logs are accepted, and behind them a partition's incarnations are used up, of the lowest of which this is so.
pub record IsSpent (flows : Flows) (count digest : ℕ) (files : ℕ → List ℕ) (partition number : ℕ) : Type 0 where
  pub logs : ℕ → List Entry
  pub kept : AreLogs count digest files logs
  pub none_left : (other : ℕ) → other < count → (placed flows count logs).left other ≡ []
  pub below : partition < count
  pub lower : (other : ℕ) → other < partition → next_incarnation (logs other) < 2 ^ 62
  pub number_is : number ≡ next_incarnation (logs partition)
  pub old : 2 ^ 62 ≤ number

-- All entries of all logs are accepted, and another request than one of these was taken under its client's name and number, of which this
-- comes first.
pub record HasTakenOther (flows : Flows) (count digest : ℕ) (files : ℕ → List ℕ) (requests : List Request) (client : List ℕ) (number : ℕ) : Type 0 where
  pub logs : ℕ → List Entry
  pub kept : AreLogs count digest files logs
  pub none_left : (partition : ℕ) → partition < count → (placed flows count logs).left partition ≡ []
  pub clash : IsClash (taken_in count (placed flows count logs).states) requests client number

abbrev pub WhyUnopened : Flows → (count digest : ℕ) → (files : ℕ → List ℕ) → List Request → OpenError → Type 0
WhyUnopened flows count digest files requests (Refused error) = Refuses flows count digest files error
WhyUnopened flows count digest files requests (Spent partition number) = IsSpent flows count digest files partition number
WhyUnopened flows count digest files requests (Clash client number) = HasTakenOther flows count digest files requests client number

-- it lies with the files themselves, and not with the disk or with memory
abbrev pub IsOwn : OpenError → Type 0
IsOwn (Refused SiteFault) = ⊥
IsOwn (Refused Memory) = ⊥
IsOwn other = Unit {0}

-- the files are to be refused for these requests
abbrev pub AreRefused : Flows → (count digest : ℕ) → (files : ℕ → List ℕ) → List Request → Type 0
AreRefused flows count digest files requests = (error : OpenError) × IsOwn error × WhyUnopened flows count digest files requests error

-- nothing happened but syncs of log files, unless the disk failed or memory ran out
abbrev pub OnlySynced : (count : ℕ) → (old new : List Step) → OpenError → Type 0
OnlySynced count old new (Refused SiteFault) = Unit {0}
OnlySynced count old new (Refused Memory) = Unit {0}
OnlySynced count old new other = AreSyncs count old new

-- another request was taken than one of these, or memory ran out
abbrev pub RefusesTaken : Taken → List Request → OpenError → Type 0
RefusesTaken taken requests (Clash client number) = IsClash taken requests client number
RefusesTaken taken requests (Refused Memory) = Unit {0}
RefusesTaken taken requests other = ⊥

-- ---- the first that is spent

-- below this place no incarnation that begins is past the last
abbrev pub AreYoung : (most : ℕ) → List Life → Type 0
AreYoung most lives = (place : ℕ) (life : Life) → place < most → slice_get lives place ≡ Some life → life.incarnation < 2 ^ 62

-- the first life whose incarnation is, if there is one
abbrev pub IsFirstSpent : List Life → Option ℕ → Type 0
IsFirstSpent lives None = AreYoung (length lives) lives
IsFirstSpent lives (Some place) = (place < length lives) × AreYoung place lives × ((life : Life) → slice_get lives place ≡ Some life → 2 ^ 62 ≤ life.incarnation)
