-- What a run is asked for.
use Rattle.std.specs.Prelude.{ℕ, List, map}
use Rattle.flow_syntax.specs.Syntax.{Flows}
use Rattle.flow_syntax.specs.Views.{flows_of}
use Rattle.request_reader.specs.Line.{Request, request_of}
use Rattle.run_inputs.specs.Input.{HasInput}
use Rattle.run_inputs.specs.declared.input.Input.{Input}

-- the flows, the digest of their file, and the requests in their order
pub record Job : Type 0 where
  pub flows : Flows
  pub digest : ℕ
  pub requests : List Request

-- what the input files ask of so many partitions and nodes
abbrev pub Asks : (partitions nodes : ℕ) → (ℕ → List ℕ) → Job → Type 0
Asks partitions nodes files job = HasInput partitions nodes files job.flows job.digest job.requests

-- what was read asks for this
abbrev pub job_of : Input → Job
job_of input = record { flows = flows_of input.file.flows; digest = input.file.digest; requests = map request_of input.requests.items }
