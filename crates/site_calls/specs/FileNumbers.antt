-- The numbers of the files, and their names.
use Rattle.std.specs.Prelude.{◌⊎◌, ◌<◌, ◌≤◌, ◌+◌, ◌*◌, ◌/◌, ◌%◌, ◌++◌, ℕ, List, codes}
use Rattle.std.specs.Fmt.{decimal}
use Rattle.site_calls.specs.declared.file_name.FileName.{FileName}
use Rattle.site_calls.specs.declared.file_name.FileName.TheVariants.{Flows, Requests, Plan, Part}
use Rattle.site_calls.specs.declared.file_name.PartKind.{PartKind}
use Rattle.site_calls.specs.declared.file_name.PartKind.TheVariants.{FirstLog, SecondLog, FirstCheckpoint, SecondCheckpoint}

-- three inputs, and four files of each of 32 partitions
abbrev pub IsFileNumber : ℕ → Type 0
IsFileNumber number = (number < 3) ⊎ ((16 ≤ number) × (number < 144))

-- a file's place among the four of its partition
abbrev pub place_of : PartKind → ℕ
place_of FirstLog = 0
place_of SecondLog = 1
place_of FirstCheckpoint = 2
place_of SecondCheckpoint = 3

-- the number that a name stands for
abbrev pub number_of : FileName → ℕ
number_of Flows = 0
number_of Requests = 1
number_of Plan = 2
number_of (Part partition kind) = 16 + 4 * partition + place_of kind

-- how the name of a partition's file ends
abbrev pub kind_text : PartKind → List ℕ
kind_text FirstLog = codes "log0"
kind_text SecondLog = codes "log1"
kind_text FirstCheckpoint = codes "ck0"
kind_text SecondCheckpoint = codes "ck1"

-- the name in the directory, a partition's number in two digits
abbrev pub name_text : FileName → List ℕ
name_text Flows = codes "flows.json"
name_text Requests = codes "requests.jsonl"
name_text Plan = codes "plan.json"
name_text (Part partition kind) = codes "p" ++ decimal (partition / 10) ++ decimal (partition % 10) ++ codes "." ++ kind_text kind
