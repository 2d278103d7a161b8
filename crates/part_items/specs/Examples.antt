-- What logs keep, by example: partition 0 is the only one.
use Rattle.std.specs.Prelude.{◌≡◌, ℕ, List, map, [], ◌∷◌, ◌++◌, take, slice_set, codes, ◌==◌, if◌then◌else◌}
use Rattle.dura_value.specs.declared.data.Value.TheVariants as values
use Rattle.dura_value.specs.Ids.{orchestration, client}
use Rattle.dura_value.specs.Items.{took, Entry}
use Rattle.dura_value.specs.Messages.{start, to_request, Message}
use Rattle.part_items.specs.Logs.{Asked, damaged_at, other_shape, other_flows, Logs, refused, no_log, log_in, logs_in, alone_with}

-- ---- logs

abbrev pub digest : ℕ
digest = 0x08F44B07B5901A25

abbrev pub asked : Asked
asked = alone_with digest

-- a log that keeps no entry: its header, and a closed gate
abbrev pub empty_log : List ℕ
empty_log =
    0xC3 ∷ 0x4E ∷ 0x45 ∷ 0x54 ∷ 0x48 ∷ 0x4C ∷ 0x4F ∷ 0x47 ∷ 1 ∷ 0 ∷ 0 ∷ 0 ∷ 0 ∷ 0 ∷ 0 ∷ 0 ∷ 1
    ∷ 0x08 ∷ 0xF4 ∷ 0x4B ∷ 0x07 ∷ 0xB5 ∷ 0x90 ∷ 0x1A ∷ 0x25 ∷ 0 ∷ 0 ∷ 0 ∷ 0 ∷ 0 ∷ 0 ∷ 0 ∷ 0 ∷ 0 ∷ []

-- files of which the two logs have these bytes
abbrev pub two_files : (first second : List ℕ) → ℕ → List ℕ
two_files first second number = if number == 16 then first else if number == 17 then second else []

-- in two such files the partition has what stands beside them
abbrev pub AreLogs : List (List ℕ × List ℕ × Logs) → Type 0
AreLogs rows = map (λ row. logs_in asked (two_files row.0 row.1)) rows ≡ map (λ row. row.2) rows

-- Neither is there; of the first a byte stands, or its first byte isn't open; the first keeps nothing, or the second.
abbrev pub good_logs : List (List ℕ × List ℕ × Logs)
good_logs =
    ([], [], no_log)
    ∷ (0xC3 ∷ [], [], no_log)
    ∷ (slice_set empty_log 0 0, [], no_log)
    ∷ (empty_log, [], log_in 16 [] 33)
    ∷ ([], empty_log, log_in 17 [] 33)
    ∷ (slice_set empty_log 0 0, empty_log, log_in 17 [] 33)
    ∷ []

-- A byte of the signature is another; the log is another partition's; its gate is missing; it begins behind position 0; what is
-- behind its gate is missing; both files are logs from position 0 on.
abbrev pub damaged_logs : List (List ℕ × List ℕ × Logs)
damaged_logs =
    (slice_set empty_log 3 0, [], refused (damaged_at 16 3))
    ∷ (slice_set empty_log 12 1, [], refused (damaged_at 16 9))
    ∷ (take 33 empty_log, [], refused (damaged_at 16 33))
    ∷ (slice_set empty_log 32 1, [], refused (damaged_at 16 25))
    ∷ (slice_set empty_log 33 0xC3, [], refused (damaged_at 16 34))
    ∷ ([], slice_set empty_log 3 0, refused (damaged_at 17 3))
    ∷ (empty_log, empty_log, refused (damaged_at 17 25))
    ∷ []

-- the same of a log without entries and another file, by what is asked
abbrev pub AreAsked : List (Asked × List ℕ × Logs) → Type 0
AreAsked rows = map (λ row. logs_in row.0 (two_files empty_log row.1)) rows ≡ map (λ row. row.2) rows

-- asked for two partitions; asked with other flows, also where the other file is damaged
abbrev pub other_logs : List (Asked × List ℕ × Logs)
other_logs =
    (record asked { count = 2 }, [], refused (other_shape 1))
    ∷ (record asked { digest = 0 }, [], refused (other_flows digest))
    ∷ (record asked { digest = 0 }, slice_set empty_log 3 0, refused (other_flows digest))
    ∷ []

-- ---- entries

-- client a's request 1: to start Sum/x with null
abbrev pub request : Message
request = record { from = client (codes "a"); to = orchestration (codes "Sum") (codes "x"); body = start values.Null (to_request 1) }

-- the entry at this position, by which it is taken
abbrev pub taking : (position : ℕ) → Entry
taking position = record { position = position; incarnation = 0; items = took request ∷ [] }

-- the frame of that entry at position 0: how long it is, and its payload
abbrev pub taking_frame : List ℕ
taking_frame =
    0 ∷ 0 ∷ 0 ∷ 38
    ∷ 0 ∷ 1 ∷ 0 ∷ 0 ∷ 0 ∷ 0 ∷ 0 ∷ 0 ∷ 0 ∷ 0 ∷ 0 ∷ 0 ∷ 0 ∷ 0 ∷ 0 ∷ 0 ∷ 0 ∷ 0 ∷ 0 ∷ 1
    ∷ 0x20 ∷ 3 ∷ 1 ∷ 0x61 ∷ 1 ∷ 3 ∷ 0x53 ∷ 0x75 ∷ 0x6D ∷ 1 ∷ 0x78 ∷ 0x10 ∷ 0 ∷ 2 ∷ 0 ∷ 0 ∷ 0 ∷ 1 ∷ []

-- a log with that frame behind its first gate
abbrev pub taking_log : List ℕ
taking_log = take 33 empty_log ++ 0xC3 ∷ taking_frame ++ 0 ∷ []

-- The entry is kept; its frame isn't, where its gate is closed; its position is another; its last byte is another, and so is no
-- number of a request; the gate behind it is missing.
abbrev pub frame_logs : List (List ℕ × List ℕ × Logs)
frame_logs =
    (taking_log, [], log_in 16 (taking 0 ∷ []) 76)
    ∷ (slice_set taking_log 33 0, [], log_in 16 [] 33)
    ∷ (slice_set taking_log 47 1, [], refused (damaged_at 16 40))
    ∷ (slice_set taking_log 75 0, [], refused (damaged_at 16 72))
    ∷ (take 76 taking_log, [], refused (damaged_at 16 34))
    ∷ []
