-- What stands in a log, gate by gate.
use Rattle.std.specs.Prelude.{◌≡◌, ℕ, ◌+◌, ◌≤◌, List, [], ◌∷◌, length, take, Result, Ok, Err, ◌==◌, if◌then◌else◌}
use Rattle.std.specs.Int.{w32}
use Rattle.commit_log.specs.declared.header.Header.{Header}
use Rattle.commit_log.specs.Segment.{◌>>=◌, open_gate, signature, constant_at, number_at, header_at, frame_at, segment_bytes, FitsHeader}

-- What a file's front says: nothing stands in it yet; or its header breaks the format first at this offset; or it has
-- this header.
pub data Opening : Type 0 where
  fresh : Opening
  damaged : (offset : ℕ) → Opening
  headed : (header : Header) → Opening

-- the header of this partition's log behind the format's gate, and the bytes from the first gate on
abbrev pub header_for : ℕ → List ℕ → Result (Header × List ℕ) ℕ
header_for partition bytes = do
  rest ← constant_at signature 1 bytes
  found ← number_at w32 9 rest
  if found.0 == partition then header_at bytes else Err 9

abbrev pub opening_from : Result (Header × List ℕ) ℕ → Opening
opening_from (Ok found) = headed found.0
opening_from (Err offset) = damaged offset

-- A file of at most one byte, or whose first byte isn't open, is fresh.
abbrev pub opening_of : ℕ → List ℕ → Opening
opening_of partition [] = fresh
opening_of partition (gate ∷ []) = fresh
opening_of partition (gate ∷ byte ∷ bytes) = if gate == open_gate then opening_from (header_for partition (byte ∷ bytes)) else fresh

-- what stands at a gate: it is closed; or a frame with this payload stands behind it; or this byte is wrong or missing
pub data Found : Type 0 where
  closed : Found
  frame : (payload : List ℕ) → Found
  wrong : (offset : ℕ) → Found

abbrev pub found_from : Result (List ℕ × List ℕ) ℕ → Found
found_from (Ok found) = frame found.0
found_from (Err offset) = wrong offset

-- what stands at the gate at this offset, of the bytes from it on
abbrev pub found_at : (gate : ℕ) → List ℕ → Found
found_at gate [] = wrong gate
found_at gate (byte ∷ bytes) = if byte == open_gate then found_from (frame_at (gate + 1) bytes) else closed

-- Of a file with this content the header and these payloads were read, and the next gate stands at this offset.
pub record HasRead (content : List ℕ) (header : Header) (payloads : List (List ℕ)) (gate : ℕ) : Type 0 where
  pub fits : FitsHeader header
  pub front : take gate content ≡ segment_bytes header payloads
  pub inside : gate ≤ length content
