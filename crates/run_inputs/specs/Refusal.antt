-- What the input files are refused for: file 0, the flows, then file 1, the requests, then file 2, the plan.
use Rattle.std.specs.Prelude.{◌==◌, ℕ, List, [], Bool, nat_lt, length, if◌then◌else◌, Option, Some, None, Result, Ok, Err}
use Rattle.std.specs.Option.{option_or}
use Rattle.flow_syntax.specs.Syntax.{Flows}
use Rattle.flow_reader.specs.Faults as flows
use Rattle.flow_reader.specs.Files.{flows_in}
use Rattle.move_plan.specs.declared.error.Place.{Place}
use Rattle.move_plan.specs.declared.error.Place.TheVariants as own
use Rattle.move_plan.specs.Plans.{Plan, plan_in}
use Rattle.request_reader.specs.Line.{Request}
use Rattle.request_reader.specs.Requests as requests
use Rattle.request_reader.specs.Requests.{requests_in}
use Rattle.run_causes.specs.declared.cause.Cause.{Cause}
use Rattle.run_causes.specs.declared.cause.Cause.TheVariants.{BadFlows, BadRequests, Clash, BadPlan, TooLong}
use Rattle.run_causes.specs.declared.cause.FlowsFault.{FlowsFault}
use Rattle.run_causes.specs.declared.cause.FlowsFault.TheVariants.{NotJson, BadShape, UnknownName}
use Rattle.run_causes.specs.declared.cause.PlanPlace.{PlanPlace}
use Rattle.run_causes.specs.declared.cause.PlanPlace.TheVariants as places

-- the most bytes of an input file
abbrev pub most_input : ℕ
most_input = 16_777_216

-- more bytes than that
abbrev pub is_too_long : List ℕ → Bool
is_too_long bytes = nat_lt most_input (length bytes)

-- the file is too long, or there may be another reason
abbrev pub too_long_or : ℕ → List ℕ → Option Cause → Option Cause
too_long_or file bytes reason = if is_too_long bytes then Some (TooLong file) else reason

-- a fault of the flows as a cause has it
abbrev pub flows_fault : flows.Fault → FlowsFault
flows_fault flows.not_json = NotJson
flows_fault (flows.bad_shape path) = BadShape path
flows_fault (flows.unknown_name path) = UnknownName path

-- why the flows are refused, by what reading them gives
abbrev pub flows_cause : Result Flows flows.Fault → Option Cause
flows_cause (Ok read) = None
flows_cause (Err fault) = Some (BadFlows (flows_fault fault))

-- why the requests are
abbrev pub requests_cause : Result (List Request) requests.Fault → Option Cause
requests_cause (Ok read) = None
requests_cause (Err (requests.bad_line line)) = Some (BadRequests line)
requests_cause (Err (requests.clash client number)) = Some (Clash client number)

-- nothing moves, and nothing stops
abbrev pub empty_plan : Plan
empty_plan = record { moves = []; stops = [] }

-- the plan of file 2, of a run of so many partitions and nodes: no bytes are the empty plan
abbrev pub plan_in_file : (partitions nodes : ℕ) → List ℕ → Result Plan Place
plan_in_file partitions nodes bytes = if length bytes == 0 then Ok empty_plan else plan_in partitions nodes bytes

-- a place of a plan as a cause has it
abbrev pub plan_place : Place → PlanPlace
plan_place own.Whole = places.Whole
plan_place (own.Move number) = places.Move number
plan_place (own.Stop number) = places.Stop number

-- why the plan is refused, by what reading it gives
abbrev pub cause_of_plan : Result Plan Place → Option Cause
cause_of_plan (Ok read) = None
cause_of_plan (Err place) = Some (BadPlan (plan_place place))

-- and by the bytes of file 2
abbrev pub plan_cause : (partitions nodes : ℕ) → List ℕ → Option Cause
plan_cause partitions nodes bytes = cause_of_plan (plan_in_file partitions nodes bytes)

-- why a file with these bytes is refused: its length comes first
abbrev pub flows_refused : List ℕ → Option Cause
flows_refused bytes = too_long_or 0 bytes (flows_cause (flows_in bytes))

abbrev pub requests_refused : List ℕ → Option Cause
requests_refused bytes = too_long_or 1 bytes (requests_cause (requests_in bytes))

abbrev pub plan_refused : (partitions nodes : ℕ) → List ℕ → Option Cause
plan_refused partitions nodes bytes = too_long_or 2 bytes (plan_cause partitions nodes bytes)

-- why the flows file is refused, whatever the others are
abbrev pub flows_refusal : (ℕ → List ℕ) → Option Cause
flows_refusal files = flows_refused (files 0)

-- why the other files are refused, whatever the flows file is
abbrev pub rest_refusal : (partitions nodes : ℕ) → (ℕ → List ℕ) → Option Cause
rest_refusal partitions nodes files = option_or (requests_refused (files 1)) (plan_refused partitions nodes (files 2))

-- the first reason why the input files of a run of so many partitions and nodes are refused
abbrev pub refusal_of : (partitions nodes : ℕ) → (ℕ → List ℕ) → Option Cause
refusal_of partitions nodes files = option_or (flows_refusal files) (rest_refusal partitions nodes files)
