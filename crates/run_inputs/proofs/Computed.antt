-- What single files give, by computation.
use Rattle.std.proofs.Common.{◌≡◌, ℕ, List, [], ◌∷◌, length, Option, Some, None, Ok, Err, refl, codes}
use Rattle.std.specs.Fmt.{digits}
use Rattle.std.specs.Option.{option_or}
use Rattle.std.specs.Str.{chars, is_utf8}
use Rattle.dura_value.specs.Reading.{id_in, pair_at}
use Rattle.flow_reader.specs.Files.{flows_in}
use Rattle.move_plan.specs.declared.error.Place.TheVariants as own
use Rattle.move_plan.specs.Rows.{going, stopping, plan_with}
use Rattle.request_reader.specs.Requests.{requests_in}
use Rattle.run_causes.specs.declared.cause.Cause.{Cause}
use Rattle.run_causes.specs.declared.cause.Cause.TheVariants.{BadFlows, BadRequests, Clash, BadPlan, TooLong}
use Rattle.run_causes.specs.declared.cause.FlowsFault.TheVariants.{NotJson}
use Rattle.run_causes.specs.declared.cause.PlanPlace.TheVariants as places
use Rattle.serde_json.proofs.OnLiterals.{serde_json_on_literals}
use Rattle.run_inputs.specs.Examples.{three_files, flows_bytes, one_flow, requests_bytes, one_request, clashing_bytes, good_files, move_bytes, stop_bytes}
use Rattle.run_inputs.specs.Refusal.{too_long_or, requests_cause, plan_cause, flows_refused, requests_refused, plan_refused, plan_in_file, refusal_of}

pub flows_of_one : flows_in flows_bytes ≡ Ok one_flow
unfolding serde_json_on_literals is_utf8 chars digits
flows_of_one = refl

pub requests_of_one : requests_in requests_bytes ≡ Ok (one_request ∷ [])
unfolding serde_json_on_literals is_utf8 chars digits id_in pair_at
requests_of_one = refl

pub refusal_good : refusal_of 1 1 good_files ≡ None
unfolding serde_json_on_literals is_utf8 chars digits id_in pair_at
refusal_good = refl

pub flows_refusal_one : flows_refused flows_bytes ≡ None
unfolding serde_json_on_literals is_utf8 chars digits
flows_refusal_one = refl

pub refusal_empty : refusal_of 1 1 (three_files (codes "{}") [] []) ≡ None
unfolding serde_json_on_literals is_utf8 chars digits
refusal_empty = refl

pub refusal_empty_plan : refusal_of 1 1 (three_files (codes "{}") [] (codes "{}")) ≡ None
unfolding serde_json_on_literals is_utf8 chars digits
refusal_empty_plan = refl

pub refusal_move : refusal_of 5 1 (three_files (codes "{}") [] move_bytes) ≡ None
unfolding serde_json_on_literals is_utf8 chars digits
refusal_move = refl

pub refusal_stop : refusal_of 1 2 (three_files (codes "{}") [] stop_bytes) ≡ None
unfolding serde_json_on_literals is_utf8 chars digits
refusal_stop = refl

pub refusal_flows : refusal_of 1 1 (three_files [] (codes "0") (codes "0")) ≡ Some (BadFlows NotJson)
unfolding serde_json_on_literals is_utf8 chars digits
refusal_flows = refl

pub refusal_requests : refusal_of 1 1 (three_files (codes "{}") (codes " \n0") (codes "0")) ≡ Some (BadRequests 2)
unfolding serde_json_on_literals is_utf8 chars digits
refusal_requests = refl

pub refusal_clash : refusal_of 1 1 (three_files (codes "{}") clashing_bytes []) ≡ Some (Clash (codes "a") 1)
unfolding serde_json_on_literals is_utf8 chars digits id_in pair_at
refusal_clash = refl

pub refusal_plan : refusal_of 1 1 (three_files (codes "{}") [] (codes "[]")) ≡ Some (BadPlan places.Whole)
unfolding serde_json_on_literals is_utf8 chars digits
refusal_plan = refl

pub refusal_past : refusal_of 4 1 (three_files (codes "{}") [] move_bytes) ≡ Some (BadPlan (places.Move 0))
unfolding serde_json_on_literals is_utf8 chars digits
refusal_past = refl

pub refusal_all_stopped : refusal_of 1 1 (three_files (codes "{}") [] stop_bytes) ≡ Some (BadPlan (places.Stop 0))
unfolding serde_json_on_literals is_utf8 chars digits
refusal_all_stopped = refl

pub plan_empty : plan_in_file 1 1 (codes "{}") ≡ plan_with [] []
unfolding serde_json_on_literals is_utf8 chars
plan_empty = refl

pub plan_moves : plan_in_file 5 1 move_bytes ≡ plan_with (going 1 4 0 ∷ []) []
unfolding serde_json_on_literals is_utf8 chars
plan_moves = refl

pub plan_stops : plan_in_file 1 2 stop_bytes ≡ plan_with [] (stopping 1 0 ∷ [])
unfolding serde_json_on_literals is_utf8 chars
plan_stops = refl

pub plan_past : plan_in_file 4 1 move_bytes ≡ Err (own.Move 0)
unfolding serde_json_on_literals is_utf8 chars
plan_past = refl

too_long : (file : ℕ) (bytes : List ℕ) (reason : Option Cause) → length bytes ≡ 16777217 → too_long_or file bytes reason ≡ Some (TooLong file)
too_long file bytes reason is = rw is

first_reason : (reason other : Option Cause) (cause : Cause) → reason ≡ Some cause → option_or reason other ≡ Some cause
first_reason reason other cause is = rw is

pub refusal_long_requests : (requests plan : List ℕ) → length requests ≡ 16777217 → refusal_of 1 1 (three_files (codes "{}") requests plan) ≡ Some (TooLong 1)
unfolding serde_json_on_literals is_utf8 chars digits
refusal_long_requests requests plan is = first_reason (requests_refused requests) (plan_refused 1 1 plan) (TooLong 1) (too_long 1 requests (requests_cause (requests_in requests)) is)

pub refusal_long_plan : (plan : List ℕ) → length plan ≡ 16777217 → refusal_of 1 1 (three_files (codes "{}") [] plan) ≡ Some (TooLong 2)
unfolding serde_json_on_literals is_utf8 chars digits
refusal_long_plan plan is = too_long 2 plan (plan_cause 1 1 plan) is
