-- What the bytes of a log file keep.
use Rattle.std.specs.Prelude.{ℕ, zero, suc, ◌+◌, List, [], ◌∷◌, ◌++◌, length, drop, Result, Ok, Err}
use Rattle.commit_log.specs.declared.header.Header.{Header}
use Rattle.commit_log.specs.Segment.{◌>>=◌, first_gate}
use Rattle.commit_log.specs.Frames as logs
use Rattle.commit_log.specs.Frames.{Opening, headed, opening_of, Found, closed, frame, wrong, found_at}
use Rattle.dura_value.specs.Items.{Entry}
use Rattle.part_items.specs.Numbered.{Next, behind_all, next_frame_in}

-- What a log file of a partition keeps: nothing yet; or its bytes break the format first at this offset; or, under this header,
-- these entries stand behind open gates, and the first closed gate stands at this offset.
pub data Kept : Type 0 where
  nothing : Kept
  broken : (offset : ℕ) → Kept
  keeps : (header : Header) → (entries : List Entry) → (gate : ℕ) → Kept

-- what was read of a payload that begins at this offset of its file
abbrev pub in_file : {X : Type 0} → ℕ → Result X ℕ → Result X ℕ
in_file at (Ok x) = Ok x
in_file at (Err offset) = Err (at + offset)

-- what stands at a gate, where this reads on behind a frame
abbrev pub at_gate : ℕ → Found → (List ℕ → Result (List Entry × ℕ) ℕ) → Result (List Entry × ℕ) ℕ
at_gate gate closed more = Ok ([], gate)
at_gate gate (frame payload) more = more payload
at_gate gate (wrong offset) more = Err offset

-- The entries behind open gates from the gate at this offset on, numbered from here, and where the first closed gate stands; or
-- the first byte that is wrong or missing. The bytes are those from the gate on, and the first number bounds the frames.
unfoldable pub entries_from : (most gate : ℕ) → Next → List ℕ → Result (List Entry × ℕ) ℕ
entries_from zero gate next bytes = Err gate
entries_from (suc most) gate next bytes = at_gate gate (found_at gate bytes) (λ payload.
    in_file (gate + 5) (next_frame_in next payload) >>= λ entries.
    entries_from most (gate + 5 + length payload) (behind_all next entries) (drop (5 + length payload) bytes) >>= λ more.
    Ok (entries ++ more.0, more.1))

-- what is kept from the gate at this offset of a file on, numbered from here
abbrev pub left_from : List ℕ → (gate : ℕ) → Next → Result (List Entry × ℕ) ℕ
left_from content gate next = entries_from (suc (length content)) gate next (drop gate content)

abbrev pub kept_under : Header → Result (List Entry × ℕ) ℕ → Kept
kept_under header (Ok found) = keeps header found.0 found.1
kept_under header (Err offset) = broken offset

-- a log's entries are numbered from its base position on
abbrev pub first_of : Header → Next
first_of header = record { position = header.base; incarnation = 0 }

abbrev pub kept_from : List ℕ → Opening → Kept
kept_from bytes logs.fresh = nothing
kept_from bytes (logs.damaged offset) = broken offset
kept_from bytes (headed header) = kept_under header (left_from bytes first_gate (first_of header))

abbrev pub kept_in : (partition : ℕ) → List ℕ → Kept
kept_in partition bytes = kept_from bytes (opening_of partition bytes)

-- The entries of a log's payloads, one after another, numbered from here, where the gate of the first stands at this offset; or the
-- first byte that is wrong or missing.
abbrev pub decoded : (gate : ℕ) → Next → List (List ℕ) → Result (List Entry) ℕ
decoded gate next [] = Ok []
decoded gate next (payload ∷ payloads) =
    in_file (gate + 5) (next_frame_in next payload) >>= λ entries.
    decoded (gate + 5 + length payload) (behind_all next entries) payloads >>= λ more.
    Ok (entries ++ more)
