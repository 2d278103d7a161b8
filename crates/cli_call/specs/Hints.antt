-- What a person is told of an end.
use Rattle.std.specs.Prelude.{ℕ, Bool, Option, None, Some, ◌==◌, if◌then◌else◌, List, [], ◌∷◌, ◌++◌, codes, string_bytes}
use Rattle.site_calls.specs.FileNumbers.{name_text}
use Rattle.site_calls.specs.Reasons.{reason_text}
use Rattle.site_calls.specs.declared.reason.Reason.{Reason}
use Rattle.site_calls.specs.declared.reason.Reason.TheVariants as reasons
use Rattle.run_causes.specs.Causes.{status_of, line_of}
use Rattle.run_causes.specs.declared.cause.Cause.{Cause}
use Rattle.run_causes.specs.declared.cause.Cause.TheVariants.{Usage, BadFlows, BadRequests, BadPlan, SiteFault, SayFault, Damaged, OtherFlows}
use Rattle.cli_call.specs.declared.findings.Absent.{Absent}
use Rattle.cli_call.specs.declared.findings.Absent.TheVariants.{Nothing, Input, Directory}
use Rattle.cli_call.specs.declared.findings.Failure.{Failure}
use Rattle.cli_call.specs.declared.findings.Findings.{Findings}

-- a line with two blanks before it
abbrev pub hint : List ℕ → List ℕ
hint text = codes "  " ++ text ++ 10 ∷ []

-- which words are understood
abbrev pub usage_text : Bool → List ℕ
usage_text is_foreign =
    hint (codes "netherite DIRECTORY run [--batch N] [--steps N] [--segment BYTES]") ++ hint (codes "netherite DIRECTORY show [--partitions N]")
    ++ (if is_foreign then hint (codes "a word isn't UTF-8; a directory of such a name is called . from within") else [])

-- what isn't there
abbrev pub absent_text : List ℕ → Absent → List ℕ
absent_text directory Nothing = []
absent_text directory (Input name) = hint (name_text name ++ codes " isn't there")
absent_text directory Directory = hint (codes "the directory " ++ directory ++ codes " isn't there")

-- what failed, and why
abbrev pub because : List ℕ → List ℕ → List ℕ → Option Reason → List ℕ
because directory place error None = hint (place ++ codes ": " ++ error)
because directory place error (Some reasons.NullDevice) = hint (codes "the null device can't be opened: " ++ error)
because directory place error (Some reasons.Directory) = hint (codes "the directory " ++ directory ++ codes ": " ++ error)
because directory place error (Some reasons.Locked) = hint (codes "another run holds the directory " ++ directory)
because directory place error (Some reason) = hint (place ++ codes ": " ++ reason_text reason)

abbrev pub failure_text : List ℕ → Failure → List ℕ
failure_text directory failure = because directory (string_bytes failure.place) (string_bytes failure.error) failure.reason

abbrev pub last_failure_text : List ℕ → Option Failure → List ℕ
last_failure_text directory None = []
last_failure_text directory (Some failure) = failure_text directory failure

-- the lines behind the first
abbrev pub further_text : Cause → Findings → List ℕ
further_text Usage found = usage_text found.is_foreign
further_text (BadFlows fault) found = absent_text (string_bytes found.directory) found.absent
further_text (BadRequests line) found = absent_text (string_bytes found.directory) found.absent
further_text (BadPlan place) found = absent_text (string_bytes found.directory) found.absent
further_text SiteFault found = last_failure_text (string_bytes found.directory) found.failure
further_text SayFault found = last_failure_text (string_bytes found.directory) found.failure
further_text (Damaged file offset) found = hint (string_bytes found.log ++ codes " is no log that a run of these files could have left")
further_text (OtherFlows kept given) found = hint (codes "flows.json isn't the one that the log was begun with")
further_text other found = []

-- the cause's line behind the program's name, and the further ones; nothing of a run that is done
abbrev pub ending_text : Cause → Findings → List ℕ
ending_text cause found = if status_of cause == 0 then [] else codes "netherite: " ++ line_of cause ++ 10 ∷ further_text cause found
