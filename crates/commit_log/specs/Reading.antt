-- What each step of reading answers.
use Rattle.std.specs.Prelude.{◌≡◌, ℕ, ◌+◌, List, [], ◌∷◌, ◌++◌, length, take, drop, Result, Ok, Err}
use Rattle.site_model.specs.History.{Step}
use Rattle.commit_log.specs.declared.header.Header.{Header}
use Rattle.commit_log.specs.Segment.{first_gate}
use Rattle.commit_log.specs.States.{IsSegment}
use Rattle.commit_log.specs.Outcomes.{RestsAs}
use Rattle.commit_log.specs.declared.reader.LogReader.{LogReader}
use Rattle.commit_log.specs.declared.reader.OpenedLog.{OpenedLog}
use Rattle.commit_log.specs.declared.reader.Next.{Next}
use Rattle.commit_log.specs.declared.reader.Next.TheVariants.{Frame, End}
use Rattle.commit_log.specs.declared.reader.OpenError.{OpenError}
use Rattle.commit_log.specs.declared.reader.OpenError.TheVariants as unopened
use Rattle.commit_log.specs.declared.reader.FrameError.{FrameError}
use Rattle.commit_log.specs.declared.reader.FrameError.TheVariants as unread
use Rattle.commit_log.specs.Frames.{fresh, damaged, headed, opening_of, closed, frame, wrong, found_at, HasRead}

-- what is answered of a partition's log whose file has this content
abbrev pub Opens : ℕ → List ℕ → Result OpenedLog OpenError → Type 0
Opens partition content (Ok opened) =
    (opening_of partition content ≡ headed opened.header) × HasRead content opened.header [] first_gate × (opened.size ≡ length content)
Opens partition content (Err unopened.Fresh) = opening_of partition content ≡ fresh
Opens partition content (Err (unopened.Damaged offset)) = opening_of partition content ≡ damaged offset
Opens partition content (Err unopened.SiteFault) = Unit {0}

-- The file is as long as this content, in which the bytes that were read ahead stand from the next gate on.
pub record IsAhead (content : List ℕ) (reader : LogReader) : Type 0 where
  pub size : reader.size ≡ length content
  pub ahead : reader.ahead ≡ take (length reader.ahead) (drop reader.gate content)

-- and so they do behind the frame
abbrev pub StaysAhead : List ℕ → Result Next FrameError → Type 0
StaysAhead content (Ok (Frame payload next)) = IsAhead content next
StaysAhead content (Ok (End log)) = Unit {0}
StaysAhead content (Err error) = Unit {0}

-- what is answered of the next gate, where these payloads stand before it
abbrev pub Goes : List ℕ → LogReader → List (List ℕ) → Result Next FrameError → Type 0
Goes content reader payloads (Ok (Frame payload next)) =
    (found_at reader.gate (drop reader.gate content) ≡ frame payload) × HasRead content reader.header (payloads ++ payload ∷ []) next.gate
Goes content reader payloads (Ok (End log)) =
    (found_at reader.gate (drop reader.gate content) ≡ closed) × (log.gate ≡ reader.gate) × IsSegment content reader.header payloads log.gate
Goes content reader payloads (Err (unread.Damaged offset)) = found_at reader.gate (drop reader.gate content) ≡ wrong offset
Goes content reader payloads (Err unread.SiteFault) = Unit {0}
Goes content reader payloads (Err unread.Memory) = Unit {0}

-- at a closed gate the log rests
abbrev pub RestsAtEnd : List Step → Header → List (List ℕ) → Result Next FrameError → Type 0
RestsAtEnd steps header payloads (Ok (Frame payload next)) = Unit {0}
RestsAtEnd steps header payloads (Ok (End log)) = RestsAs steps header payloads log
RestsAtEnd steps header payloads (Err error) = Unit {0}

-- the next gate stands behind the frame in the same file, and a closed gate stands where it was looked for
abbrev pub StaysInFile : LogReader → Result Next FrameError → Type 0
StaysInFile reader (Ok (Frame payload next)) =
    (next.file ≡ reader.file) × (next.header ≡ reader.header) × (next.size ≡ reader.size) × (next.gate ≡ reader.gate + 5 + length payload)
StaysInFile reader (Ok (End log)) = (log.file ≡ reader.file) × (log.gate ≡ reader.gate)
StaysInFile reader (Err error) = Unit {0}
