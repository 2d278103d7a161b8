-- What is found beside the cause of an end.
use Rattle.std.specs.Prelude.{◌≡◌, ℕ, Option, None, Some, List, codes, string_bytes}
use Rattle.site_calls.specs.FileNumbers.{IsFileNumber, number_of, name_text}
use Rattle.site_calls.specs.declared.fault.Fault.{Fault}
use Rattle.site_calls.specs.declared.fault.FaultPlace.{FaultPlace}
use Rattle.site_calls.specs.declared.fault.FaultPlace.TheVariants.{File, Names, Output}
use Rattle.site_calls.specs.declared.file_name.FileName.{FileName}
use Rattle.site_calls.specs.declared.file_name.FileName.TheVariants.{Flows, Requests, Plan}
use Rattle.site_calls.specs.declared.reason.Reason.{Reason}
use Rattle.run_causes.specs.declared.cause.Cause.{Cause}
use Rattle.run_causes.specs.declared.cause.Cause.TheVariants.{BadFlows, BadRequests, BadPlan, Damaged}
use Rattle.cli_call.specs.declared.findings.Failure.{Failure}

-- what a place is called: a file by its name in the directory
abbrev pub IsPlaceName : FaultPlace → List ℕ → Type 0
IsPlaceName (File number) text = IsFileNumber number → (name : FileName) × (number_of name ≡ number) × (text ≡ name_text name)
IsPlaceName Names text = text ≡ codes "the names of the directory"
IsPlaceName Output text = text ≡ codes "standard output"

-- the input that a cause is about
abbrev pub input_of : Cause → Option FileName
input_of (BadFlows fault) = Some Flows
input_of (BadRequests line) = Some Requests
input_of (BadPlan place) = Some Plan
input_of other = None

-- the text names the log that a cause is about, if it is about one
abbrev pub names_log : Cause → List ℕ → Type 0
names_log (Damaged file offset) text = IsPlaceName (File file) text
names_log other text = Unit {0}

-- it is told by the name of the place where it failed, with the reason
abbrev pub IsFailureOf : Option Fault → Option Reason → Option Failure → Type 0
IsFailureOf None reason failure = failure ≡ None
IsFailureOf (Some fault) reason None = ⊥
IsFailureOf (Some fault) reason (Some failure) = IsPlaceName fault.place (string_bytes failure.place) × (failure.reason ≡ reason)
