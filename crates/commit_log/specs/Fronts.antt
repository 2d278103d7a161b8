-- What the bytes of one read say of the file that they are the front of.
use Rattle.std.specs.Prelude.{◌≡◌, ℕ, ◌<◌, ◌^◌, Option, Some, None, List, [], ◌∷◌, ◌++◌, length, Result, Ok, Err}
use Rattle.std.specs.Int.{w32, to_be_bytes}
use Rattle.commit_log.specs.declared.header.Header.{Header}
use Rattle.commit_log.specs.Segment.{open_gate, first_gate}
use Rattle.commit_log.specs.declared.reader.OpenError.{OpenError}
use Rattle.commit_log.specs.declared.reader.OpenError.TheVariants as unopened
use Rattle.commit_log.specs.declared.reader.FrameError.{FrameError}
use Rattle.commit_log.specs.declared.reader.FrameError.TheVariants as unread
use Rattle.commit_log.specs.Frames.{fresh, damaged, headed, opening_of, closed, wrong, found_at, HasRead}

-- what a step of reading returned, seen by view, is what the definition gives
abbrev pub FrontGives : {X Y : Type 0} → (X → Y) → Result X ℕ → Result Y ℕ → Type 0
FrontGives view (Ok x) wanted = wanted ≡ Ok (view x)
FrontGives view (Err offset) wanted = wanted ≡ Err offset

-- an open gate, this length, and the rest
pub record BeginsFrame (bytes : List ℕ) (size : ℕ) : Type 0 where
  pub rest : List ℕ
  pub split : bytes ≡ open_gate ∷ (to_be_bytes w32 size ++ rest)
  pub fits : size < 2 ^ 32

-- what is answered of the bytes from a gate on, by the gate and the length behind it
abbrev pub SaysGate : ℕ → List ℕ → Result (Option ℕ) FrameError → Type 0
SaysGate gate bytes (Ok None) = found_at gate bytes ≡ closed
SaysGate gate bytes (Ok (Some size)) = BeginsFrame bytes size
SaysGate gate bytes (Err (unread.Damaged offset)) = (length bytes < 5) × (found_at gate bytes ≡ wrong offset)
SaysGate gate bytes (Err unread.SiteFault) = Unit {0}
SaysGate gate bytes (Err unread.Memory) = Unit {0}

-- what the bytes before the first gate say of a file with this content
abbrev pub SaysHeader : ℕ → List ℕ → Result Header OpenError → Type 0
SaysHeader partition content (Ok header) = (opening_of partition content ≡ headed header) × HasRead content header [] first_gate
SaysHeader partition content (Err unopened.Fresh) = opening_of partition content ≡ fresh
SaysHeader partition content (Err (unopened.Damaged offset)) = opening_of partition content ≡ damaged offset
SaysHeader partition content (Err unopened.SiteFault) = Unit {0}
