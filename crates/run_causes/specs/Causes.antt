-- The exit status of a cause, and its line on standard error behind the program's name.
use Rattle.std.specs.Prelude.{ℕ, zero, suc, ◌+◌, ◌-◌, ◌/◌, ◌%◌, List, [], ◌∷◌, ◌++◌, codes, nat_lt, Bool, true, false, if◌then◌else◌}
use Rattle.std.specs.Fmt.{decimal}
use Rattle.flow_values.specs.Faults.{path_text}
use Rattle.run_causes.specs.declared.cause.Cause.{Cause}
use Rattle.run_causes.specs.declared.cause.Cause.TheVariants.{Done, Usage, BadFlows, BadRequests, Clash, BadPlan, TooLong, Waiting, Long, SiteFault, SayFault, ClockFault, Damaged, Illegal, Unclosed, OtherShape, OtherFlows, Memory, Full, Spent}
use Rattle.run_causes.specs.declared.cause.FlowsFault.{FlowsFault}
use Rattle.run_causes.specs.declared.cause.FlowsFault.TheVariants as flows
use Rattle.run_causes.specs.declared.cause.PlanPlace.{PlanPlace}
use Rattle.run_causes.specs.declared.cause.PlanPlace.TheVariants as plans

abbrev pub status_of : Cause → ℕ
status_of Done = 0
status_of Usage = 1
status_of (BadFlows fault) = 2
status_of (BadRequests line) = 2
status_of (Clash client number) = 2
status_of (BadPlan place) = 2
status_of (TooLong file) = 2
status_of (Waiting client number) = 3
status_of (Long labels) = 4
status_of SiteFault = 5
status_of SayFault = 6
status_of ClockFault = 7
status_of (Damaged file offset) = 8
status_of (Illegal partition position) = 9
status_of (Unclosed partition position src seq) = 9
status_of (OtherShape found asked) = 10
status_of (OtherFlows found given) = 10
status_of Memory = 11
status_of (Full partition length) = 12
status_of (Spent partition number) = 12

-- files that stand for no run
abbrev pub is_damage : Cause → Bool
is_damage (Damaged file offset) = true
is_damage (Illegal partition position) = true
is_damage (Unclosed partition position src seq) = true
is_damage (OtherShape found asked) = true
is_damage (OtherFlows found given) = true
is_damage other = false

-- a blank and a number
abbrev pub numbered : ℕ → List ℕ
numbered n = 32 ∷ decimal n

-- 0 to 9, then a to f
abbrev pub hex_digit : ℕ → ℕ
hex_digit n = if nat_lt n 10 then 48 + n else 97 + (n - 10)

-- the last digits of a number, as many as there are to be
abbrev pub hex_digits : (count : ℕ) → ℕ → List ℕ
hex_digits zero n = []
hex_digits (suc count) n = hex_digits count (n / 16) ++ hex_digit (n % 16) ∷ []

abbrev pub flows_text : FlowsFault → List ℕ
flows_text flows.NotJson = codes "not json"
flows_text (flows.BadShape path) = codes "shape " ++ path_text path
flows_text (flows.UnknownName path) = codes "name " ++ path_text path

abbrev pub plan_text : PlanPlace → List ℕ
plan_text plans.Whole = codes "whole"
plan_text (plans.Move index) = codes "move" ++ numbered index
plan_text (plans.Stop index) = codes "stop" ++ numbered index

-- nothing is said of a run that is done
abbrev pub line_of : Cause → List ℕ
line_of Done = []
line_of Usage = codes "usage"
line_of (BadFlows fault) = codes "flows " ++ flows_text fault
line_of (BadRequests line) = codes "requests line" ++ numbered line
line_of (Clash client number) = codes "clash" ++ 32 ∷ client ++ numbered number
line_of (BadPlan place) = codes "plan " ++ plan_text place
line_of (TooLong file) = codes "too long" ++ numbered file
line_of (Waiting client number) = codes "waiting" ++ 32 ∷ client ++ numbered number
line_of (Long labels) = codes "long" ++ numbered labels
line_of SiteFault = codes "site fault"
line_of SayFault = codes "say fault"
line_of ClockFault = codes "clock fault"
line_of (Damaged file offset) = codes "damaged" ++ numbered file ++ numbered offset
line_of (Illegal partition position) = codes "illegal" ++ numbered partition ++ numbered position
line_of (Unclosed partition position src seq) = codes "unclosed" ++ numbered partition ++ numbered position ++ numbered src ++ numbered seq
line_of (OtherShape found asked) = codes "partitions" ++ numbered found ++ numbered asked
line_of (OtherFlows found given) = codes "digest " ++ hex_digits 16 found ++ codes " " ++ hex_digits 16 given
line_of Memory = codes "memory"
line_of (Full partition length) = codes "full" ++ numbered partition ++ numbered length
line_of (Spent partition number) = codes "spent" ++ numbered partition ++ numbered number
