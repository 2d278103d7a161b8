-- How a log segment is spelled, and what its bytes stand for. Offsets count from the start of the file.
use Rattle.std.specs.Prelude.{ℕ, zero, suc, ◌+◌, ◌<◌, ◌^◌, List, [], ◌∷◌, ◌++◌, length, take, drop, Result, Ok, Err, nat_lt, ◌&&◌, ◌==◌, if◌then◌else◌}
use Rattle.std.specs.List.{flat_map}
use Rattle.std.specs.Int.{Width, w32, w64, byte_len, from_be_bytes, to_be_bytes}
use Rattle.commit_log.specs.declared.header.Header.{Header}

-- a gate is open exactly when it is this byte
abbrev pub open_gate : ℕ
open_gate = 195

-- NETHLOG, and the version
abbrev pub signature : List ℕ
signature = 78 ∷ 69 ∷ 84 ∷ 72 ∷ 76 ∷ 79 ∷ 71 ∷ 1 ∷ []

-- the header from offset 1 to the first gate
abbrev pub header_bytes : Header → List ℕ
header_bytes h = signature ++ to_be_bytes w32 h.partition ++ to_be_bytes w32 h.partitions ++ to_be_bytes w64 h.digest ++ to_be_bytes w64 h.base

-- what has a spelling
pub record FitsHeader (h : Header) : Type 0 where
  pub partition : h.partition < 2 ^ 32
  pub partitions : h.partitions < 2 ^ 32
  pub digest : h.digest < 2 ^ 64
  pub base : h.base < 2 ^ 63

-- behind an open gate: the payload's length and the payload
abbrev pub framed : List ℕ → List ℕ
framed payload = to_be_bytes w32 (length payload) ++ payload

abbrev pub frame_bytes : List ℕ → List ℕ
frame_bytes payload = open_gate ∷ framed payload

-- a segment up to its first closed gate
abbrev pub segment_bytes : Header → List (List ℕ) → List ℕ
segment_bytes h payloads = open_gate ∷ header_bytes h ++ flat_map frame_bytes payloads

-- What the bytes of a file stand for: nothing yet; or they break the format first at this offset; or these payloads
-- stand behind open gates, and the first closed gate at this offset.
pub data Reading : Type 0 where
  fresh : Reading
  damaged : (offset : ℕ) → Reading
  segment : (header : Header) → (payloads : List (List ℕ)) → (gate : ℕ) → Reading

-- Each step of reading gives what it read, or the offset of the first byte that is wrong or missing.
infixl 10 ◌>>=◌
abbrev pub ◌>>=◌ : {A B : Type 0} → Result A ℕ → (A → Result B ℕ) → Result B ℕ
(Ok x) >>= f = f x
(Err offset) >>= f = Err offset

-- these bytes one by one, and then the rest
abbrev pub constant_at : List ℕ → ℕ → List ℕ → Result (List ℕ) ℕ
constant_at [] at bytes = Ok bytes
constant_at (wanted ∷ more) at [] = Err at
constant_at (wanted ∷ more) at (byte ∷ bytes) = if byte == wanted then constant_at more (at + 1) bytes else Err at

-- a number, named by its first byte where it isn't whole, and the rest
abbrev pub number_at : Width → ℕ → List ℕ → Result (ℕ × List ℕ) ℕ
number_at w at bytes = if nat_lt (length bytes) (byte_len w) then Err at else Ok (from_be_bytes w (take (byte_len w) bytes), drop (byte_len w) bytes)

-- the header behind the format's gate, and the bytes from the first gate on
unfoldable pub header_at : List ℕ → Result (Header × List ℕ) ℕ
header_at bytes = do
  rest ← constant_at signature 1 bytes
  partition ← number_at w32 9 rest
  partitions ← number_at w32 13 partition.1
  digest ← number_at w64 17 partitions.1
  base ← number_at w64 25 digest.1
  if nat_lt base.0 (2 ^ 63) then Ok (record { partition = partition.0; partitions = partitions.0; digest = digest.0; base = base.0 }, base.1) else Err 25

-- The payload behind an open gate, and the bytes from the next gate on. Its length is damaged where the next gate
-- isn't in the file, or where a file that ends with that gate would have 2 ^ 31 bytes or more.
unfoldable pub frame_at : ℕ → List ℕ → Result (List ℕ × List ℕ) ℕ
frame_at at bytes = do
  size ← number_at w32 at bytes
  if nat_lt size.0 (length size.1) && nat_lt (at + 5 + size.0) (2 ^ 31) then Ok (take size.0 size.1, drop size.0 size.1) else Err at

-- The payloads behind open gates, and where the first closed gate stands. The first number bounds the frames.
unfoldable pub frames_from : ℕ → ℕ → List ℕ → Result (List (List ℕ) × ℕ) ℕ
frames_from zero at bytes = Err at
frames_from (suc most) at [] = Err at
frames_from (suc most) at (gate ∷ bytes) =
    if gate == open_gate
    then (frame_at (at + 1) bytes >>= λ frame. frames_from most (at + 5 + length frame.0) frame.1 >>= λ more. Ok (frame.0 ∷ more.0, more.1))
    else Ok ([], at)

-- the first gate
abbrev pub first_gate : ℕ
first_gate = 33

abbrev pub segment_at : List ℕ → Result (Header × (List (List ℕ) × ℕ)) ℕ
segment_at bytes = header_at bytes >>= λ header. frames_from (suc (length header.1)) first_gate header.1 >>= λ frames. Ok (header.0, frames)

abbrev pub told : Result (Header × (List (List ℕ) × ℕ)) ℕ → Reading
told (Ok found) = segment found.0 found.1.0 found.1.1
told (Err offset) = damaged offset

-- A file of at most one byte, or whose first byte isn't open, is fresh. What follows a closed gate isn't looked at.
abbrev pub reading_of : List ℕ → Reading
reading_of [] = fresh
reading_of (gate ∷ []) = fresh
reading_of (gate ∷ byte ∷ bytes) = if gate == open_gate then told (segment_at (byte ∷ bytes)) else fresh
