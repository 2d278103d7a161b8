-- Directories to look at: what their files hold.
use Rattle.std.specs.Prelude.{ℕ, List, [], ◌∷◌, ◌++◌, take, drop, slice_set, codes, ◌==◌, if◌then◌else◌}
use Rattle.part_items.specs.Examples.{empty_log, taking_frame}
use Rattle.run_inputs.specs.Examples.{three_files, flows_bytes}

-- one flow, these requests, and this first log
abbrev pub directory : (requests first : List ℕ) → ℕ → List ℕ
directory requests first file = if file == 16 then first else three_files flows_bytes requests [] file

-- a log of this flow without entries
abbrev pub own_log : List ℕ
own_log = take 17 empty_log ++ (0x93 ∷ 0x2D ∷ 0xE7 ∷ 0x99 ∷ 0x99 ∷ 0x1D ∷ 0x1C ∷ 0x40 ∷ []) ++ drop 25 empty_log

-- and one of an earlier run, in which client a's request 1 was taken, to start Sum/x
abbrev pub earlier_log : List ℕ
earlier_log = take 33 own_log ++ 0xC3 ∷ taking_frame ++ 0 ∷ []

-- what a crash may leave of it before its gate is opened, with the frame half there
abbrev pub torn_log : List ℕ
torn_log = take 50 (slice_set earlier_log 33 0)

-- client a asks for nothing under that number, or for the same
abbrev pub other_client : List ℕ
other_client = codes "{\"client\":\"b\",\"n\":1,\"query\":\"F/k\"}"
