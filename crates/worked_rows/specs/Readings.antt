-- What worked rows say of requests and words.
use Rattle.std.specs.Prelude.{ℕ, List, [], ◌∷◌, ◌++◌, codes, length, Option, Some, None, Result, Ok, Err}
use Rattle.std.specs.Fmt.{decimal}
use Rattle.std.specs.List.{join_with_byte}
use Rattle.command_words.specs.Command.{call_in}
use Rattle.command_words.specs.declared.words.Call.{Call}
use Rattle.command_words.specs.declared.words.Call.TheVariants.{Run, Show}
use Rattle.command_words.specs.declared.words.RunMode.{RunMode}
use Rattle.command_words.specs.declared.words.RunMode.TheVariants as modes
use Rattle.request_reader.specs.Line.{Request}
use Rattle.request_reader.specs.Requests.{Fault, bad_line, clash, requests_in}

-- how many requests, or the fault
abbrev pub verdict : Result (List Request) Fault → List ℕ
verdict (Ok requests) = codes "read " ++ decimal (length requests)
verdict (Err (bad_line line)) = codes "line " ++ decimal line
verdict (Err (clash client n)) = codes "clash " ++ client ++ 32 ∷ decimal n

-- what becomes of a file of these lines
abbrev pub requests_of : List (List ℕ) → List ℕ
requests_of lines = verdict (requests_in (join_with_byte 10 lines))

-- the word for a mode
abbrev pub mode_text : RunMode → List ℕ
mode_text modes.None = codes "none"
mode_text modes.Local = codes "local"
mode_text modes.Global = codes "global"

-- the values of a run in the order of its options, or the partitions that are shown
abbrev pub call_text : Option Call → List ℕ
call_text (Some (Run o)) =
    codes "run " ++ join_with_byte 32 (decimal o.partitions ∷ decimal o.nodes ∷ mode_text o.mode ∷ decimal o.batch ∷ decimal o.steps ∷ decimal o.seed
    ∷ decimal o.twice ∷ decimal o.drop ∷ decimal o.hold ∷ decimal o.segment ∷ [])
call_text (Some (Show partitions)) = codes "show " ++ decimal partitions
call_text None = codes "usage"

-- what these words ask for
abbrev pub asked_by : List (List ℕ) → List ℕ
asked_by words = call_text (call_in words)
