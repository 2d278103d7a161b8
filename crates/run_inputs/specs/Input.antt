-- What reading the input files answers.
use Rattle.std.specs.Prelude.{◌≡◌, ℕ, List, length, map, false, true, Option, Some, None, Result, Ok, Err, Vec}
use Rattle.std.specs.declared.alloc.Global.{Global}
use Rattle.dura_value.specs.Digest.{fnv1a_64}
use Rattle.dura_value.specs.declared.messages.Request.{Request as OwnRequest}
use Rattle.flow_syntax.specs.Syntax.{Flows}
use Rattle.flow_syntax.specs.Views.{flows_of}
use Rattle.flow_reader.specs.Files.{flows_in}
use Rattle.move_plan.specs.Plans.{plan_of}
use Rattle.move_plan.specs.declared.plans.Plan.{Plan as OwnPlan}
use Rattle.request_reader.specs.Line.{Request, request_of}
use Rattle.request_reader.specs.Requests.{requests_in}
use Rattle.run_causes.specs.declared.cause.Cause.{Cause}
use Rattle.run_causes.specs.declared.cause.Cause.TheVariants.{BadFlows, BadRequests, Clash, BadPlan, TooLong, SiteFault, Memory}
use Rattle.run_inputs.specs.declared.flows.FlowFile.{FlowFile}
use Rattle.run_inputs.specs.declared.input.Input.{Input}
use Rattle.run_inputs.specs.Refusal.{is_too_long, flows_cause, requests_cause, requests_refused, plan_in_file, plan_cause, plan_refused, flows_refusal, rest_refusal, refusal_of}

-- ---- why nothing is read

-- what reading a file may end with
abbrev pub IsFileCause : Cause → Type 0
IsFileCause (TooLong file) = Unit {0}
IsFileCause SiteFault = Unit {0}
IsFileCause Memory = Unit {0}
IsFileCause other = ⊥

-- what reading the flows file may end with
abbrev pub IsFlowsCause : Cause → Type 0
IsFlowsCause (BadFlows fault) = Unit {0}
IsFlowsCause (TooLong file) = Unit {0}
IsFlowsCause SiteFault = Unit {0}
IsFlowsCause Memory = Unit {0}
IsFlowsCause other = ⊥

-- what reading the input files may end with
abbrev pub IsInputCause : Cause → Type 0
IsInputCause (BadFlows fault) = Unit {0}
IsInputCause (BadRequests line) = Unit {0}
IsInputCause (Clash client number) = Unit {0}
IsInputCause (BadPlan place) = Unit {0}
IsInputCause (TooLong file) = Unit {0}
IsInputCause SiteFault = Unit {0}
IsInputCause Memory = Unit {0}
IsInputCause other = ⊥

-- the reason why the files are refused, or a fault of the outside, or want of memory
abbrev pub RefusesInput : Option Cause → Cause → Type 0
RefusesInput refusal (BadFlows fault) = refusal ≡ Some (BadFlows fault)
RefusesInput refusal (BadRequests line) = refusal ≡ Some (BadRequests line)
RefusesInput refusal (Clash client number) = refusal ≡ Some (Clash client number)
RefusesInput refusal (BadPlan place) = refusal ≡ Some (BadPlan place)
RefusesInput refusal (TooLong file) = refusal ≡ Some (TooLong file)
RefusesInput refusal SiteFault = Unit {0}
RefusesInput refusal Memory = Unit {0}
RefusesInput refusal other = ⊥

-- ---- one file

-- its length, unless it is too long
abbrev pub LengthRead : List ℕ → ℕ → Result ℕ Cause → Type 0
LengthRead content file (Ok n) = (n ≡ length content) × (is_too_long content ≡ false)
LengthRead content file (Err (TooLong other)) = (other ≡ file) × (is_too_long content ≡ true)
LengthRead content file (Err SiteFault) = Unit {0}
LengthRead content file (Err other) = ⊥

-- the whole file, unless it is too long
abbrev pub FileRead : List ℕ → ℕ → Result (Vec ℕ Global) Cause → Type 0
FileRead content file (Ok bytes) = (bytes.items ≡ content) × (is_too_long content ≡ false)
FileRead content file (Err (TooLong other)) = (other ≡ file) × (is_too_long content ≡ true)
FileRead content file (Err SiteFault) = Unit {0}
FileRead content file (Err Memory) = Unit {0}
FileRead content file (Err other) = ⊥

-- the flows that the bytes give, and their digest
abbrev pub FlowsRead : List ℕ → Result FlowFile Cause → Type 0
FlowsRead bytes (Ok file) = (flows_in bytes ≡ Ok (flows_of file.flows)) × (file.digest ≡ fnv1a_64 bytes)
FlowsRead bytes (Err (BadFlows fault)) = flows_cause (flows_in bytes) ≡ Some (BadFlows fault)
FlowsRead bytes (Err Memory) = Unit {0}
FlowsRead bytes (Err other) = ⊥

-- the requests that the bytes give
abbrev pub RequestsRead : List ℕ → Result (Vec OwnRequest Global) Cause → Type 0
RequestsRead bytes (Ok requests) = requests_in bytes ≡ Ok (map request_of requests.items)
RequestsRead bytes (Err (BadRequests line)) = requests_cause (requests_in bytes) ≡ Some (BadRequests line)
RequestsRead bytes (Err (Clash client number)) = requests_cause (requests_in bytes) ≡ Some (Clash client number)
RequestsRead bytes (Err Memory) = Unit {0}
RequestsRead bytes (Err other) = ⊥

-- the plan that the bytes give
abbrev pub PlanRead : (partitions nodes : ℕ) → List ℕ → Result OwnPlan Cause → Type 0
PlanRead partitions nodes bytes (Ok plan) = plan_in_file partitions nodes bytes ≡ Ok (plan_of plan)
PlanRead partitions nodes bytes (Err (BadPlan place)) = plan_cause partitions nodes bytes ≡ Some (BadPlan place)
PlanRead partitions nodes bytes (Err Memory) = Unit {0}
PlanRead partitions nodes bytes (Err other) = ⊥

-- the requests of a whole file 1
abbrev pub ReadsRequestFile : List ℕ → Result (Vec OwnRequest Global) Cause → Type 0
ReadsRequestFile bytes (Ok requests) = (requests_refused bytes ≡ None) × (requests_in bytes ≡ Ok (map request_of requests.items))
ReadsRequestFile bytes (Err cause) = RefusesInput (requests_refused bytes) cause

-- the plan of a whole file 2
abbrev pub ReadsPlan : (partitions nodes : ℕ) → List ℕ → Result OwnPlan Cause → Type 0
ReadsPlan partitions nodes bytes (Ok plan) = (plan_refused partitions nodes bytes ≡ None) × (plan_in_file partitions nodes bytes ≡ Ok (plan_of plan))
ReadsPlan partitions nodes bytes (Err cause) = RefusesInput (plan_refused partitions nodes bytes) cause

-- ---- the files

-- File 0 is accepted, and these are its flows and its digest.
pub record HasFlows (files : ℕ → List ℕ) (flows : Flows) (digest : ℕ) : Type 0 where
  pub accepted : flows_refusal files ≡ None
  pub flows_in_file : flows_in (files 0) ≡ Ok flows
  pub digest_of_file : digest ≡ fnv1a_64 (files 0)

-- what reading the flows file answers
abbrev pub ReadsFlowFile : (ℕ → List ℕ) → Result FlowFile Cause → Type 0
ReadsFlowFile files (Ok file) = HasFlows files (flows_of file.flows) file.digest
ReadsFlowFile files (Err cause) = RefusesInput (flows_refusal files) cause

-- the requests of file 1 and the plan of file 2, unless one of them is refused
abbrev pub ReadsRest : (partitions nodes : ℕ) → (ℕ → List ℕ) → Result (Vec OwnRequest Global × OwnPlan) Cause → Type 0
ReadsRest partitions nodes files (Ok (requests, plan)) = (rest_refusal partitions nodes files ≡ None) × (requests_in (files 1) ≡ Ok (map request_of requests.items)) × (plan_in_file partitions nodes (files 2) ≡ Ok (plan_of plan))
ReadsRest partitions nodes files (Err cause) = RefusesInput (rest_refusal partitions nodes files) cause

-- The input files are accepted for so many partitions and nodes, and these are their flows, the digest of the flows file, and their requests.
pub record HasInput (partitions nodes : ℕ) (files : ℕ → List ℕ) (flows : Flows) (digest : ℕ) (requests : List Request) : Type 0 where
  pub accepted : refusal_of partitions nodes files ≡ None
  pub flows_in_file : flows_in (files 0) ≡ Ok flows
  pub requests_in_file : requests_in (files 1) ≡ Ok requests
  pub digest_of_file : digest ≡ fnv1a_64 (files 0)

-- what reading the input files answers
abbrev pub ReadsInput : (partitions nodes : ℕ) → (ℕ → List ℕ) → Result Input Cause → Type 0
ReadsInput partitions nodes files (Ok input) = HasInput partitions nodes files (flows_of input.file.flows) input.file.digest (map request_of input.requests.items) × (plan_in_file partitions nodes (files 2) ≡ Ok (plan_of input.plan))
ReadsInput partitions nodes files (Err cause) = RefusesInput (refusal_of partitions nodes files) cause
