-- What is there on single directories.
use Rattle.std.proofs.Common.{◌≡◌, ◌∙◌, ◌==◌, if◌then◌else◌, ℕ, List, [], ◌∷◌, length, Some, refl, sym, ap, subst, arith}
use Rattle.std.specs.Fmt.{digits}
use Rattle.std.specs.Str.{chars, is_utf8}
use Rattle.dura_model.specs.Partition.{Partition, fresh, with_part}
use Rattle.cluster_run.specs.Comes.AreUnfit.{for_logs}
use Rattle.engine_run.specs.Showing.{AreThere, RefusesThere}
use Rattle.flow_syntax.specs.Syntax.{Flows}
use Rattle.part_items.specs.Logs.{logs_in, entries_in, alone_with}
use Rattle.dura_value.specs.Items.{Entry}
use Rattle.log_files.specs.Checked.{asked_for}
use Rattle.many_logs.specs.Placing.{count_entries, placed_in, placed}
use Rattle.part_items.specs.Examples.{taking}
use Rattle.run_rules.proofs.OneOfMany.{none_left}
use Rattle.run_rules.specs.Examples.{request_taken}
use Rattle.run_examples.specs.Directories.{directory, earlier_log}
use Rattle.open_logs.specs.Spent.{IsOwn}
use Rattle.open_logs.specs.declared.error.OpenError.TheVariants as refusals
use Rattle.recover_core.specs.declared.error.RecoverError.{RecoverError}
use Rattle.run_causes.specs.declared.cause.Cause.TheVariants.{BadFlows}
use Rattle.run_causes.specs.declared.cause.FlowsFault.TheVariants.{NotJson}
use Rattle.run_examples.specs.Calls.{one_asked}
use Rattle.run_examples.proofs.LogsKept.{fresh_kept, earlier_kept}
use Rattle.run_examples.proofs.Fit.{not_refused}
use Rattle.run_examples.proofs.Ready.{earlier_logs, earlier_in}
use Rattle.run_inputs.specs.Examples.{good_files, one_flow, requests_bytes}
use Rattle.run_inputs.specs.Refusal.{flows_refused}
use Rattle.run_inputs.proofs.Computed.{flows_of_one, flows_refusal_one, requests_of_one, refusal_good}
use Rattle.serde_json.proofs.OnLiterals.{serde_json_on_literals}

pub is_there : AreThere good_files 1 one_flow fresh
is_there = record {
  digest = one_asked.digest;
  flows_in_file = record { accepted = flows_refusal_one; flows_in_file = flows_of_one; digest_of_file = refl };
  logs = λ partition. [];
  kept = λ partition below. let is : 0 ≡ partition = omega (arith, below) in subst (λ (p : ℕ). entries_in (logs_in (asked_for 1 one_asked.digest p) good_files) ≡ Some []) is fresh_kept;
  none_left = λ partition below. refl;
  made = refl;
}

-- an empty file is no JSON
pub no_flows_there : flows_refused [] ≡ Some (BadFlows NotJson)
unfolding serde_json_on_literals is_utf8 chars digits
no_flows_there = refl

-- nothing was done in a fresh directory
pub only_fresh : (flows : Flows) (states : ℕ → Partition) → AreThere good_files 1 flows states → fresh ≡ states
only_fresh flows states there =
    let kept = subst (λ (n : ℕ). entries_in (logs_in (alone_with n) good_files) ≡ Some (there.logs 0)) there.flows_in_file.digest_of_file (there.kept 0 (omega arith)) in
    let none : [] ≡ there.logs 0 = cc (fresh_kept, kept) in
    let long : length (there.logs 0) ≡ 0 = ap (λ (l : List Entry). length l) (sym none) in
    let many : 0 ≡ count_entries 1 there.logs = omega (arith, long) in
    ap (λ (n : ℕ). (placed_in flows 1 n (record { states = fresh; left = there.logs })).states) many ∙ sym there.made

-- and its logs aren't refused
pub no_refusal : (error : RecoverError) → IsOwn (refusals.Refused error) → RefusesThere good_files 1 error → ⊥
no_refusal error own refuses =
    not_refused (for_logs (record { flows = refuses.0; digest = refuses.1; requests = one_asked.requests })
    (record { flows_in_file = refuses.2.flows_in_file; digest_of_file = refuses.2.digest_of_file; requests_in_file = requests_of_one; accepted = refusal_good })
    (refusals.Refused error, own, refuses.3))

-- ---- an earlier run

-- what it took is there
pub earlier_there : AreThere (directory requests_bytes earlier_log) 1 one_flow (with_part fresh 0 request_taken)
earlier_there = record {
  digest = one_asked.digest;
  flows_in_file = record { accepted = flows_refusal_one; flows_in_file = flows_of_one; digest_of_file = refl };
  logs = earlier_logs;
  kept = λ partition below. earlier_in partition (omega (arith, below));
  none_left = λ partition below. let is : 0 ≡ partition = omega (arith, below) in subst (λ (p : ℕ). (placed one_flow 1 earlier_logs).left p ≡ []) is refl;
  made = refl;
}

-- and the state isn't that in which nothing happened
pub earlier_done : (states : ℕ → Partition) → AreThere (directory requests_bytes earlier_log) 1 one_flow states → (states 0).position ≡ 0 → ⊥
earlier_done states there none =
    let kept = subst (λ (n : ℕ). entries_in (logs_in (alone_with n) (directory requests_bytes earlier_log)) ≡ Some (there.logs 0)) there.flows_in_file.digest_of_file (there.kept 0 (omega arith)) in
    let its : there.logs 0 ≡ taking 0 ∷ [] = cc (kept, earlier_kept) in
    let they = none_left one_flow (taking 0 ∷ []) request_taken there.logs its refl in
    let place : (states 0).position ≡ 1 = ap (λ (f : ℕ → Partition). (f 0).position) (there.made ∙ they.states) in
    omega (arith, none, place)
