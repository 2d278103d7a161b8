-- How far a log was read, entry by entry, and what is left of it.
use Rattle.std.specs.Prelude.{◌≡◌, ℕ, ◌+◌, ◌*◌, ◌-◌, ◌^◌, ◌<◌, ◌≤◌, List, [], ◌∷◌, ◌++◌, length, Result, Ok, Err}
use Rattle.site_model.specs.History.{Step, changes_of, content_of, IsKept}
use Rattle.commit_log.specs.Segment.{◌>>=◌, first_gate}
use Rattle.commit_log.specs.Outcomes.{RestsAs}
use Rattle.commit_log.specs.Frames.{HasRead}
use Rattle.commit_log.specs.Reading.{IsAhead}
use Rattle.commit_log.specs.declared.reader.FrameError.{FrameError}
use Rattle.commit_log.specs.declared.reader.FrameError.TheVariants as unread
use Rattle.commit_log.specs.declared.reader.LogReader.{LogReader}
use Rattle.commit_log.specs.declared.reader.OpenedLog.{OpenedLog}
use Rattle.commit_log.specs.declared.states.Resting.{Resting}
use Rattle.dura_value.specs.declared.faults.ReadError.{ReadError}
use Rattle.dura_value.specs.declared.faults.ReadError.TheVariants.{Bad, Memory}
use Rattle.dura_value.specs.Items.{Entry}
use Rattle.log_items.specs.Plain.{entry_of}
use Rattle.part_items.specs.Coming.{Coming, IsNext}
use Rattle.part_items.specs.Numbered.{Next, behind, behind_all, next_frame_in, next_of}
use Rattle.part_items.specs.Kept.{in_file, left_from, first_of}
use Rattle.log_files.specs.declared.reader.EntryReader.{EntryReader}
use Rattle.log_files.specs.declared.reader.EntryReader.TheVariants.{Before, Inside}
use Rattle.log_files.specs.declared.reader.Turn as turns
use Rattle.log_files.specs.declared.reader.Turn.TheVariants as turn
use Rattle.log_files.specs.declared.reader.Ahead as aheads
use Rattle.log_files.specs.declared.reader.Ahead.TheVariants as ahead

-- the entries of the payloads of a log that begins here, one frame behind another
abbrev pub frames_in : Next → List (List ℕ) → Result (List Entry) ℕ
frames_in next [] = Ok []
frames_in next (payload ∷ payloads) = next_frame_in next payload >>= λ entries. frames_in (behind_all next entries) payloads >>= λ more. Ok (entries ++ more)

-- a fault in a payload that begins at this offset is told by its own in the file
abbrev pub fault_behind : (start : ℕ) → ReadError → FrameError
fault_behind start (Bad offset) = unread.Damaged (start + offset)
fault_behind start Memory = unread.Memory

-- a fault stands in a payload that begins here and ends there
abbrev pub IsFaultBefore : (start end : ℕ) → ReadError → Type 0
IsFaultBefore start end (Bad offset) = start + offset ≤ end
IsFaultBefore start end Memory = Unit {0}

-- where the log goes on
abbrev pub next_in : EntryReader → Next
next_in (Before reader next) = next_of next
next_in (Inside reader start frame) = frame.next

-- entries in front of others, and where the log ends behind these
abbrev pub with_front : List Entry → Result (List Entry × ℕ) ℕ → Result (List Entry × ℕ) ℕ
with_front front read = read >>= λ more. Ok (front ++ more.0, more.1)

-- the entries that are left of a log whose file has this content, and the first closed gate behind them; or the first byte that is wrong
abbrev pub left_in : (content : List ℕ) → EntryReader → Result (List Entry × ℕ) ℕ
left_in content (Before reader next) = left_from content reader.gate (next_of next)
left_in content (Inside reader start frame) = in_file start frame.entries >>= λ entries. with_front entries (left_from content reader.gate (behind_all frame.next entries))

-- all that a log has
abbrev pub whole_of : List Step → OpenedLog → Result (List Entry × ℕ) ℕ
whole_of steps log = left_from (content_of log.file steps) first_gate (first_of log.header)

-- A log was opened, and its file synced.
pub record IsOpenedLog (steps : List Step) (log : OpenedLog) : Type 0 where
  pub read : HasRead (content_of log.file steps) log.header [] first_gate
  pub size : log.size ≡ length (content_of log.file steps)
  pub kept : IsKept (changes_of log.file steps)

-- Of a log that was opened these entries were read, frame by frame, and the next gate stands before the reader.
pub record IsBefore (steps : List Step) (log : OpenedLog) (done : List Entry) (reader : LogReader) (next : Next) : Type 0 where
  pub file : reader.file ≡ log.file
  pub header : reader.header ≡ log.header
  pub payloads : List (List ℕ)
  pub read : HasRead (content_of log.file steps) log.header payloads reader.gate
  pub decoded : frames_in (first_of log.header) payloads ≡ Ok done
  pub goes_on : next ≡ behind_all (first_of log.header) done
  pub ahead : IsAhead (content_of log.file steps) reader

-- These were read up to a place inside a frame, behind which the reader goes on.
pub record IsInside (steps : List Step) (log : OpenedLog) (done : List Entry) (reader : LogReader) (start : ℕ) (frame : Coming) : Type 0 where
  pub file : reader.file ≡ log.file
  pub header : reader.header ≡ log.header
  pub payloads : List (List ℕ)
  pub payload : List ℕ
  pub read : HasRead (content_of log.file steps) log.header (payloads ++ payload ∷ []) reader.gate
  pub before : List Entry
  pub decoded : frames_in (first_of log.header) payloads ≡ Ok before
  pub given : List Entry
  pub frame_is : next_frame_in (behind_all (first_of log.header) before) payload ≡ (frame.entries >>= λ more. Ok (given ++ more))
  pub done_is : done ≡ before ++ given
  pub goes_on : frame.next ≡ behind_all (first_of log.header) done
  pub ends : start + length payload ≡ reader.gate
  pub ahead : IsAhead (content_of log.file steps) reader

abbrev pub IsAt : List Step → OpenedLog → List Entry → EntryReader → Type 0
IsAt steps log done (Before reader next) = IsBefore steps log done reader (next_of next)
IsAt steps log done (Inside reader start frame) = IsInside steps log done reader start frame

-- A log that was opened was read this far: these are its entries so far, and the others are left.
pub record Reads (steps : List Step) (log : OpenedLog) (done : List Entry) (reader : EntryReader) : Type 0 where
  pub at : IsAt steps log done reader
  pub left : with_front done (left_in (content_of log.file steps) reader) ≡ whole_of steps log

-- A log was read to its end, with these entries, and rests there.
pub record EndsAs (steps : List Step) (log : OpenedLog) (done : List Entry) (end : Resting) : Type 0 where
  pub file : end.file ≡ log.file
  pub whole : whole_of steps log ≡ Ok (done, end.gate)
  pub payloads : List (List ℕ)
  pub decoded : frames_in (first_of log.header) payloads ≡ Ok done
  pub rests : RestsAs steps log.header payloads end

-- what is answered of a log that was read this far, by a step and by all steps up to the next entry
abbrev pub Turns : List Step → OpenedLog → List Entry → Result turns.Turn FrameError → Type 0
Turns steps log done (Ok (turn.Entry entry behind)) = Reads steps log (done ++ entry_of entry ∷ []) behind
Turns steps log done (Ok (turn.On more)) = Reads steps log done more
Turns steps log done (Ok (turn.End end)) = EndsAs steps log done end
Turns steps log done (Err (unread.Damaged offset)) = whole_of steps log ≡ Err offset
Turns steps log done (Err unread.SiteFault) = Unit {0}
Turns steps log done (Err unread.Memory) = Unit {0}

abbrev pub Gives : List Step → OpenedLog → List Entry → Result aheads.Ahead FrameError → Type 0
Gives steps log done (Ok (ahead.Entry entry behind)) = Reads steps log (done ++ entry_of entry ∷ []) behind
Gives steps log done (Ok (ahead.End end)) = EndsAs steps log done end
Gives steps log done (Err (unread.Damaged offset)) = whole_of steps log ≡ Err offset
Gives steps log done (Err unread.SiteFault) = Unit {0}
Gives steps log done (Err unread.Memory) = Unit {0}

-- how much there may be to read at most
abbrev pub fuel_of : EntryReader → ℕ
fuel_of (Before reader next) = 70 * (2 ^ 31 - reader.gate)
fuel_of (Inside reader start frame) = 70 * (2 ^ 31 - reader.gate) + frame.left + 1

-- An entry stands where the log goes on, whatever the disk answered.
pub record IsEntry (old : EntryReader) (entry : Entry) (new : EntryReader) : Type 0 where
  pub is_next : IsNext (next_in old) entry
  pub behind : next_in new ≡ behind entry
  pub less : fuel_of new < fuel_of old

abbrev pub StaysNumbered : EntryReader → Result turns.Turn FrameError → Type 0
StaysNumbered old (Ok (turn.Entry entry new)) = IsEntry old (entry_of entry) new
StaysNumbered old (Ok (turn.On new)) = (next_in new ≡ next_in old) × (fuel_of new < fuel_of old)
StaysNumbered old (Ok (turn.End end)) = Unit {0}
StaysNumbered old (Err error) = Unit {0}

abbrev pub GivesNumbered : EntryReader → Result aheads.Ahead FrameError → Type 0
GivesNumbered old (Ok (ahead.Entry entry new)) = IsEntry old (entry_of entry) new
GivesNumbered old (Ok (ahead.End end)) = Unit {0}
GivesNumbered old (Err error) = Unit {0}
