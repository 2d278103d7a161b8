-- What the reader answers.
use Rattle.std.specs.Prelude.{◌≡◌, Result, Ok, Err}
use Rattle.flow_syntax.specs.declared.flows.Flows.{Flows}
use Rattle.flow_syntax.specs.Syntax as plain
use Rattle.flow_syntax.specs.Views.{flows_of}
use Rattle.flow_reader.specs.Faults.{Fault, not_json, bad_shape, unknown_name}
use Rattle.flow_reader.specs.declared.reading.FlowsError.{FlowsError}
use Rattle.flow_reader.specs.declared.reading.FlowsError.TheVariants.{NotJson, BadShape, UnknownName}
use Rattle.flow_reader.specs.declared.reading.FlowsError.TheVariants as refusals

-- the causes of a refusal, but for want of memory
abbrev pub IsRefusal : FlowsError → Result plain.Flows Fault → Type 0
IsRefusal NotJson read = read ≡ Err not_json
IsRefusal (BadShape path) read = read ≡ Err (bad_shape path)
IsRefusal (UnknownName path) read = read ≡ Err (unknown_name path)
IsRefusal refusals.Memory read = Unit {0}

-- the flows, or why there are none
abbrev pub Reads : Result Flows FlowsError → Result plain.Flows Fault → Type 0
Reads (Ok file) read = read ≡ Ok (flows_of file)
Reads (Err error) read = IsRefusal error read
