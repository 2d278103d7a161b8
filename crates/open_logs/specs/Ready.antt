-- Logs that are ready to be opened, and logs that are opened.
use Rattle.std.specs.Prelude.{◌≡◌, ◌⊎◌, ℕ, ◌≤◌, List, [], length, Option, Some, None, Result, Ok, IfOk}
use Rattle.std.specs.List.{slice_get}
use Rattle.commit_log.specs.declared.states.Resting.{Resting}
use Rattle.commit_log.specs.Outcomes.{RestsAs}
use Rattle.commit_log.specs.Segment.{first_gate}
use Rattle.commit_log.specs.States.{IsFormatting}
use Rattle.dura_value.specs.Items.{Entry}
use Rattle.many_rules.specs.Leaves.{header_at}
use Rattle.open_logs.specs.Moments.{KeepsAll}
use Rattle.open_logs.specs.declared.formatting.Ready.{Ready}
use Rattle.part_items.specs.Kept.{nothing, kept_in, first_of, decoded}
use Rattle.part_items.specs.Logs.{first_log, second_log}
use Rattle.recover_core.specs.declared.ending.Life.{Life}
use Rattle.site_model.specs.History.{Step, changes_of, content_of, IsKept, Leaves}
use Rattle.site_model.specs.Moments.{Always, LeavesOnly}

-- The log rests in one of its partition's two files, with these entries, and the other keeps nothing; all of it is on the disk.
pub record IsOpened (count digest partition : ℕ) (entries : List Entry) (steps : List Step) (log : Resting) : Type 0 where
  pub payloads : List (List ℕ)
  pub read : decoded first_gate (first_of (header_at count digest partition)) payloads ≡ Ok entries
  pub rests : RestsAs steps (header_at count digest partition) payloads log
  pub other : ℕ
  pub files : ((log.file ≡ first_log partition) × (other ≡ second_log partition)) ⊎ ((log.file ≡ second_log partition) × (other ≡ first_log partition))
  pub empty : (image : List ℕ) → Leaves (changes_of other steps) image → kept_in partition image ≡ nothing

-- There are no entries, and neither file keeps anything, with all of both on the disk.
pub record IsUnmade (partition : ℕ) (entries : List Entry) (steps : List Step) : Type 0 where
  pub none : entries ≡ []
  pub first : kept_in partition (content_of (first_log partition) steps) ≡ nothing
  pub second : kept_in partition (content_of (second_log partition) steps) ≡ nothing
  pub first_kept : IsKept (changes_of (first_log partition) steps)
  pub second_kept : IsKept (changes_of (second_log partition) steps)

-- the log was found, or there is none yet
abbrev pub IsReady : (count digest partition : ℕ) → List Entry → List Step → Option Resting → Type 0
IsReady count digest partition entries steps (Some log) = IsOpened count digest partition entries steps log
IsReady count digest partition entries steps None = IsUnmade partition entries steps

-- and so it is with all
abbrev pub AllReady : (count digest : ℕ) → (logs : ℕ → List Entry) → List Step → List Life → Type 0
AllReady count digest logs steps lives = (partition : ℕ) (life : Life) → slice_get lives partition ≡ Some life → IsReady count digest partition (logs partition) steps life.log

-- one log was there, or was made in its partition's first file
abbrev pub OpensLog : {E : Type 0} → (count digest partition : ℕ) → (old new : List Step) → Option Resting → Result Resting E → Type 0
OpensLog count digest partition old new (Some log) result = (result ≡ Ok log) × (new ≡ old)
OpensLog count digest partition old new None result =
    IsKept (changes_of (first_log partition) old)
    → LeavesOnly (first_log partition) old new (IsFormatting (content_of (first_log partition) old) (header_at count digest partition))
    × IfOk result (λ log. (log.file ≡ first_log partition) × RestsAs new (header_at count digest partition) [] log)

-- Each of the first partitions has its log opened, and the other partitions' log files are as they were.
pub record HasOpened (count digest : ℕ) (logs : ℕ → List Entry) (old steps : List Step) (opened : List Resting) : Type 0 where
  pub path : Always (KeepsAll count digest logs old) old steps
  pub opened_all : (partition : ℕ) (log : Resting) → slice_get opened partition ≡ Some log → IsOpened count digest partition (logs partition) steps log
  pub first : (partition : ℕ) → length opened ≤ partition → changes_of (first_log partition) steps ≡ changes_of (first_log partition) old
  pub second : (partition : ℕ) → length opened ≤ partition → changes_of (second_log partition) steps ≡ changes_of (second_log partition) old

-- There is a log for each life, and what the lives have is kept.
pub record AreOfLives (lives : List Life) (ready : Ready) : Type 0 where
  pub logs : length ready.logs.items ≡ length lives
  pub pasts : length ready.pasts.items ≡ length lives
  pub incarnations : length ready.incarnations.items ≡ length lives
  pub past : (partition : ℕ) (life : Life) (past : List ℕ) → slice_get lives partition ≡ Some life → slice_get ready.pasts.items partition ≡ Some past → past ≡ life.past
  pub incarnation : (partition : ℕ) (life : Life) (incarnation : ℕ) → slice_get lives partition ≡ Some life → slice_get ready.incarnations.items partition ≡ Some incarnation → incarnation ≡ life.incarnation
