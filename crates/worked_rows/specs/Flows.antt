-- What worked rows say of files.
use Rattle.std.specs.Prelude.{ℕ, List, ◌++◌, codes, Result, Ok, Err}
use Rattle.flow_syntax.specs.Syntax.{Flows}
use Rattle.flow_values.specs.Faults.{path_text}
use Rattle.flow_reader.specs.Faults.{Fault, not_json, bad_shape, unknown_name}
use Rattle.flow_reader.specs.Files.{flows_in}

-- the fault and its path
abbrev pub refusal : Result Flows Fault → List ℕ
refusal (Ok file) = codes "read"
refusal (Err not_json) = codes "not json"
refusal (Err (bad_shape path)) = codes "shape " ++ path_text path
refusal (Err (unknown_name path)) = codes "name " ++ path_text path

-- what becomes of a file
abbrev pub line_for : List ℕ → List ℕ
line_for bytes = refusal (flows_in bytes)

-- what becomes of a file whose one flow F has these statements
abbrev pub line_in_flow : List ℕ → List ℕ
line_in_flow statements = line_for (codes "{\"flows\":{\"F\":[" ++ statements ++ codes "]}}")
