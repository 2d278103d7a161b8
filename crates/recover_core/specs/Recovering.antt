-- What the log files of many partitions stand for, as recovery answers it.
use Rattle.std.specs.Prelude.{◌≡◌, ℕ, ◌<◌, ◌≤◌, List, [], length, Option, Some, None, Result, Ok, Err, IfSome, IfOk}
use Rattle.std.specs.List.{slice_get}
use Rattle.site_model.specs.History.{Step}
use Rattle.commit_log.specs.declared.header.Header.{Header}
use Rattle.commit_log.specs.declared.states.Resting.{Resting}
use Rattle.commit_log.specs.Outcomes.{RestsAs}
use Rattle.dura_value.specs.Items.{Entry}
use Rattle.dura_model.specs.Entries.{next_incarnation}
use Rattle.dura_model.specs.Legal.{Legal}
use Rattle.dura_model.specs.Partition.{fresh, shown}
use Rattle.dura_model.specs.Steps.{Label}
use Rattle.flow_syntax.specs.Syntax.{Flows}
use Rattle.log_files.specs.Checked.{asked_for, RefusesFirst}
use Rattle.log_files.specs.Entries.{frames_in}
use Rattle.log_files.specs.declared.error.FilesError.TheVariants as unfit
use Rattle.log_items.specs.Entries.{incarnations_in}
use Rattle.many_logs.specs.Labels.{AreNumbered}
use Rattle.many_logs.specs.Placing.{Commit, AllBelow, states_after, of_partition, placed}
use Rattle.many_logs.specs.Unplaced.{Unplaced, illegal, unclosed, unplaced}
use Rattle.part_items.specs.Kept.{first_of}
use Rattle.part_items.specs.Logs.{Asked, Logs, no_log, log_in, logs_in, entries_in}
use Rattle.part_steps.specs.States.{AreStatesOfAll, parts_in}
use Rattle.recover_core.specs.declared.ending.Life.{Life}
use Rattle.recover_core.specs.declared.error.RecoverError.{RecoverError}
use Rattle.recover_core.specs.declared.error.RecoverError.TheVariants.{Damaged, OtherShape, OtherFlows, Illegal, Unclosed, SiteFault, Memory}
use Rattle.recover_core.specs.declared.recovery.Opened.{Opened}

-- ---- what is there

-- each partition has these entries in its log files
abbrev pub AreLogs : (count digest : ℕ) → (files : ℕ → List ℕ) → (logs : ℕ → List Entry) → Type 0
AreLogs count digest files logs = (partition : ℕ) → partition < count → entries_in (logs_in (asked_for count digest partition) files) ≡ Some (logs partition)

-- the log is the one that the files have
abbrev pub IsLogOf : List Entry → Option Resting → Logs → Type 0
IsLogOf entries None logs = logs ≡ no_log
IsLogOf entries (Some log) logs = logs ≡ log_in log.file entries log.gate

-- What is kept of a partition's log: the incarnation of each entry, and the one that begins behind them; and the log, if there is one.
pub record IsLifeOf (logs : Logs) (entries : List Entry) (life : Life) : Type 0 where
  pub past : life.past ≡ incarnations_in entries
  pub incarnation : life.incarnation ≡ next_incarnation entries
  pub log : IsLogOf entries life.log logs

-- All entries of all logs were placed, none is left, and these are the states that they made.
pub record AreOpened (flows : Flows) (count digest : ℕ) (files : ℕ → List ℕ) (opened : Opened) : Type 0 where
  pub logs : ℕ → List Entry
  pub kept : AreLogs count digest files logs
  pub none_left : (partition : ℕ) → partition < count → (placed flows count logs).left partition ≡ []
  pub states : parts_in opened.states.items ≡ (placed flows count logs).states
  pub lives : (partition : ℕ) (life : Life) → slice_get opened.lives.items partition ≡ Some life → IsLifeOf (logs_in (asked_for count digest partition) files) (logs partition) life

-- ---- why files are refused

-- An entry is left, of the lowest partition that has one left, for this.
pub record IsLeft (flows : Flows) (count digest : ℕ) (files : ℕ → List ℕ) (reason : Unplaced) : Type 0 where
  pub logs : ℕ → List Entry
  pub kept : AreLogs count digest files logs
  pub why : unplaced flows count (placed flows count logs) ≡ Some reason

-- the first fault of the files; where no file has one, why an entry is left
abbrev pub Refuses : Flows → (count digest : ℕ) → (files : ℕ → List ℕ) → RecoverError → Type 0
Refuses flows count digest files (Damaged file offset) = RefusesFirst count digest files (unfit.Damaged file offset)
Refuses flows count digest files (OtherShape found asked) = RefusesFirst count digest files (unfit.OtherShape found asked)
Refuses flows count digest files (OtherFlows found given) = RefusesFirst count digest files (unfit.OtherFlows found given)
Refuses flows count digest files (Illegal partition position) = IsLeft flows count digest files (illegal partition position)
Refuses flows count digest files (Unclosed partition position src seq) = IsLeft flows count digest files (unclosed partition position src seq)
Refuses flows count digest files SiteFault = Unit {0}
Refuses flows count digest files Memory = Unit {0}

abbrev pub Opens : Flows → (count digest : ℕ) → (files : ℕ → List ℕ) → Result Opened RecoverError → Type 0
Opens flows count digest files (Ok opened) = AreOpened flows count digest files opened
Opens flows count digest files (Err error) = Refuses flows count digest files error

-- ---- what a run may go on with

-- An entry of the incarnation that begins may begin in each state, whose entries were counted by their incarnations.
pub record CanGoOn (count : ℕ) (opened : Opened) : Type 0 where
  pub all : AreStatesOfAll opened.states.items
  pub many : length opened.states.items ≡ count
  pub lives : length opened.lives.items ≡ count
  pub counted : (partition : ℕ) (life : Life) → slice_get opened.lives.items partition ≡ Some life → (parts_in opened.states.items partition).position ≡ length life.past
  pub younger : (partition : ℕ) (life : Life) → slice_get opened.lives.items partition ≡ Some life → (parts_in opened.states.items partition).incarnation ≤ life.incarnation

-- Whatever the disk answered: entries were placed in an order, one after another from states in which nothing happened, and made these states; each stands at the next position of its partition, and is of no earlier incarnation. What is kept of each log are their incarnations, and the one that begins behind them.
pub record WerePlaced (flows : Flows) (count digest : ℕ) (tells : Type 0) (files : ℕ → List ℕ) (opened : Opened) : Type 0 where
  pub run : List Commit
  pub below : AllBelow count run
  pub made : states_after flows count fresh run ≡ Some (parts_in opened.states.items)
  pub numbered : AreNumbered fresh run
  pub past : (partition : ℕ) (life : Life) → slice_get opened.lives.items partition ≡ Some life → life.past ≡ incarnations_in (of_partition partition run)
  pub incarnation : (partition : ℕ) (life : Life) → slice_get opened.lives.items partition ≡ Some life → life.incarnation ≡ next_incarnation (of_partition partition run)
  -- where the site tells, they are the entries that the files keep
  pub theirs : tells → (partition : ℕ) → partition < count → entries_in (logs_in (asked_for count digest partition) files) ≡ Some (of_partition partition run)

-- A log rests in its file under a header of its partition, from position 0 on, with frames of the entries that the files have.
pub record RestsFor (steps : List Step) (asked : Asked) (logs : Logs) (log : Resting) : Type 0 where
  pub header : Header
  pub payloads : List (List ℕ)
  pub entries : List Entry
  pub rests : RestsAs steps header payloads log
  pub kept : entries_in logs ≡ Some entries
  pub decoded : frames_in (first_of header) payloads ≡ Ok entries
  pub partition : header.partition ≡ asked.partition
  pub partitions : header.partitions ≡ asked.count
  pub of_flows : header.digest ≡ asked.digest
  pub base : header.base ≡ 0

-- and so do all
abbrev pub AllRest : List Step → (count digest : ℕ) → (files : ℕ → List ℕ) → List Life → Type 0
AllRest steps count digest files lives = (partition : ℕ) (life : Life) → slice_get lives partition ≡ Some life
    → IfSome life.log (RestsFor steps (asked_for count digest partition) (logs_in (asked_for count digest partition) files))

-- ---- files that stand for a run

-- the files aren't refused: all else lies with the disk or with memory
abbrev pub IsNotRefused : Result Opened RecoverError → Type 0
IsNotRefused (Ok opened) = Unit {0}
IsNotRefused (Err SiteFault) = Unit {0}
IsNotRefused (Err Memory) = Unit {0}
IsNotRefused (Err other) = ⊥

-- what is recovered shows the world after the run, which is legal
abbrev pub ShowsRun : Flows → (count : ℕ) → List Label → Result Opened RecoverError → Type 0
ShowsRun flows count run result = IfOk result (λ opened. Legal flows run (shown flows count (parts_in opened.states.items)))
