-- A state that is made again from its partition's log.
use Rattle.std.specs.Prelude.{◌≡◌, ℕ, ◌+◌, ◌≤◌, ◌<◌, List, length, Some, None, Result, Ok, Err}
use Rattle.site_model.specs.History.{Step}
use Rattle.commit_log.specs.declared.reader.FrameError.{FrameError}
use Rattle.commit_log.specs.declared.reader.FrameError.TheVariants as unread
use Rattle.commit_log.specs.declared.reader.OpenedLog.{OpenedLog}
use Rattle.dura_value.specs.Items.{Entry}
use Rattle.dura_value.specs.Limits.{number_limit}
use Rattle.flow_syntax.specs.Syntax.{Flows}
use Rattle.dura_model.specs.Partition.{Partition, fresh}
use Rattle.dura_model.specs.Entries as alone
use Rattle.dura_model.specs.Entries.{entry_accepted}
use Rattle.log_files.specs.Entries.{whole_of, with_front}
use Rattle.log_files.specs.declared.reader.Ahead.{Ahead}
use Rattle.log_files.specs.declared.reader.Ahead.TheVariants as ahead
use Rattle.log_files.specs.declared.reader.EntryReader.{EntryReader}
use Rattle.log_items.specs.Plain.{entry_of}
use Rattle.part_steps.specs.declared.state.PartState.{PartState}
use Rattle.part_steps.specs.States.{IsSound, count_of, state_of}

-- A log that can be read to its end begins with these entries, as many as this, and they made this of the partition.
pub record IsFront (flows : Flows) (steps : List Step) (log : OpenedLog) (count partition position : ℕ) (done : List Entry) (made : Partition) : Type 0 where
  pub many : length done ≡ position
  pub left : List Entry × ℕ
  pub front : with_front done (Ok left) ≡ whole_of steps log
  pub chain : alone.placed flows count (fresh partition) done ≡ Ok made

-- the same was made again, or the log can't be read
abbrev pub Restores : List Step → OpenedLog → Partition → Result PartState FrameError → Type 0
Restores steps log made (Ok state) = state_of state ≡ made
Restores steps log made (Err (unread.Damaged offset)) = whole_of steps log ≡ Err offset
Restores steps log made (Err unread.SiteFault) = Unit {0}
Restores steps log made (Err unread.Memory) = Unit {0}

-- the next entry stands where the state goes on
abbrev pub FitsAhead : Partition → Ahead → Type 0
FitsAhead p (ahead.Entry entry behind) = (p.position ≡ entry.position) × (p.incarnation ≤ entry.incarnation) × (entry.position < number_limit)
FitsAhead p (ahead.End end) = Unit {0}

-- the next entry made this state
abbrev pub RestoresOne : Flows → (old : PartState) → Ahead → PartState × EntryReader → Type 0
RestoresOne flows old (ahead.Entry entry behind) (new, reader) =
    (entry_accepted flows (count_of old) (state_of old) (entry_of entry) ≡ Some (state_of new)) × IsSound new × (count_of new ≡ count_of old)
    × ((state_of new).position ≡ (state_of old).position + 1) × ((state_of new).incarnation ≡ entry.incarnation) × ((state_of new).number ≡ (state_of old).number) × (reader ≡ behind)
RestoresOne flows old (ahead.End end) made = ⊥

-- there is no next entry, or it isn't accepted, unless memory ran out
abbrev pub StopsRestoring : Flows → (count : ℕ) → Partition → Ahead → FrameError → Type 0
StopsRestoring flows count p (ahead.Entry entry behind) (unread.Damaged offset) = entry_accepted flows count p (entry_of entry) ≡ None
StopsRestoring flows count p next error = Unit {0}
