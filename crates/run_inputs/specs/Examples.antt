-- Input files by example.
use Rattle.std.specs.Prelude.{ℕ, List, [], ◌∷◌, ◌++◌, codes, ◌==◌, if◌then◌else◌}
use Rattle.dura_value.specs.Ids.{client, orchestration}
use Rattle.dura_value.specs.Messages.{query}
use Rattle.flow_syntax.specs.Syntax.{Flows, nothing}
use Rattle.request_reader.specs.Line.{Request}

-- the input files have these bytes, and the others none
abbrev pub three_files : (flows requests plan : List ℕ) → ℕ → List ℕ
three_files flows requests plan file = if file == 0 then flows else (if file == 1 then requests else (if file == 2 then plan else []))

-- a file of one flow without statements
abbrev pub flows_bytes : List ℕ
flows_bytes = codes "{\"flows\":{\"F\":[]}}"

abbrev pub one_flow : Flows
one_flow = record { flows = record { name = codes "F"; it = nothing } ∷ []; classes = [] }

-- a file of one request
abbrev pub requests_bytes : List ℕ
requests_bytes = codes "{\"client\":\"a\",\"n\":1,\"query\":\"F/k\"}"

abbrev pub one_request : Request
one_request = record { client = codes "a"; number = 1; message = record { from = client (codes "a"); to = orchestration (codes "F") (codes "k"); body = query 1 } }

-- the same, and another of this client with this number
abbrev pub clashing_bytes : List ℕ
clashing_bytes = requests_bytes ++ codes "\n{\"client\":\"a\",\"n\":1,\"wait\":\"F/k\"}"

-- one flow and one request, and an empty plan
abbrev pub good_files : ℕ → List ℕ
good_files = three_files flows_bytes requests_bytes []

-- a plan of one move
abbrev pub move_bytes : List ℕ
move_bytes = codes "{\"moves\":[{\"turn\":1,\"partition\":4,\"node\":0}]}"

-- a plan of one stop
abbrev pub stop_bytes : List ℕ
stop_bytes = codes "{\"stops\":[{\"turn\":1,\"node\":0}]}"
