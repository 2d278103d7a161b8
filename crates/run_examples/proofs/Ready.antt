-- Which files are to be refused.
use Rattle.std.proofs.Common.{◌≡◌, ◌∙◌, ◌==◌, if◌then◌else◌, ℕ, List, [], ◌∷◌, true, codes, Some, refl, sym, ap, subst, arith}
use Rattle.std.proofs.lemmas.List.Elements.{All-from_recursion}
use Rattle.client_order.specs.Clashes.{Taken, IsClash, clashes, taken_in}
use Rattle.client_order.specs.Order.{no_later}
use Rattle.cluster_run.specs.Asked.{Asks}
use Rattle.cluster_run.specs.Comes.{AreUnfit}
use Rattle.cluster_run.specs.Comes.AreUnfit.{for_input, for_logs}
use Rattle.dura_model.proofs.Alone.{home_alone}
use Rattle.dura_model.specs.Partition.{Partition}
use Rattle.dura_value.specs.Ids.{client}
use Rattle.dura_value.specs.Items.{Entry}
use Rattle.log_files.specs.Checked.{asked_for, RefusesFirst}
use Rattle.log_files.specs.declared.error.FilesError.TheVariants as unfit
use Rattle.many_logs.specs.Placing.{placed}
use Rattle.open_logs.specs.Spent.{HasTakenOther}
use Rattle.open_logs.specs.declared.error.OpenError.TheVariants as refusals
use Rattle.part_items.specs.Examples.{digest, empty_log, taking}
use Rattle.part_items.specs.Logs.{logs_in, entries_in}
use Rattle.recover_core.specs.declared.error.RecoverError.TheVariants as errors
use Rattle.request_reader.specs.Line.{Request}
use Rattle.run_causes.specs.declared.cause.Cause.TheVariants as causes
use Rattle.run_causes.specs.declared.cause.PlanPlace.TheVariants as places
use Rattle.run_examples.specs.Calls.{by_steps, one_asked, taken_of}
use Rattle.run_examples.specs.Directories.{directory, earlier_log}
use Rattle.run_examples.proofs.LogsKept.{earlier_kept, other_kept}
use Rattle.run_inputs.specs.Examples.{three_files, one_flow, one_request, requests_bytes}
use Rattle.run_inputs.proofs.Computed.{flows_of_one, requests_of_one, refusal_good, refusal_plan}
use Rattle.run_rules.specs.Examples.{request_taken}

pub asks_here : (first : List ℕ) → Asks 1 1 (directory requests_bytes first) one_asked
asks_here first = record { flows_in_file = flows_of_one; digest_of_file = refl; requests_in_file = requests_of_one; accepted = refusal_good }

-- the log of the one partition is of other flows
pub other_first : RefusesFirst 1 one_asked.digest (directory requests_bytes empty_log) (unfit.OtherFlows digest one_asked.digest)
other_first = record { partition = 0; below = omega arith; lower = λ other below. absurd (omega (arith, below)); refused = (other_kept, refl) }

-- ---- an earlier run

-- the entries of the one partition there is
abbrev pub earlier_logs : ℕ → List Entry
earlier_logs partition = if partition == 0 then taking 0 ∷ [] else []

pub earlier_in : (partition : ℕ) → 0 ≡ partition → entries_in (logs_in (asked_for 1 one_asked.digest partition) (directory requests_bytes earlier_log)) ≡ Some (earlier_logs partition)
earlier_in partition is = subst (λ (p : ℕ). entries_in (logs_in (asked_for 1 one_asked.digest p) (directory requests_bytes earlier_log)) ≡ Some (earlier_logs p)) is earlier_kept

-- what the one partition took is what is taken at all
same_taken : (p : Partition) (states : ℕ → Partition) → states 0 ≡ p → taken_in 1 states ≡ taken_of p
same_taken p states is = (λ i name number. (states (home_alone (client name) i)).taken (client name) number) ∙ ap taken_of is

taken_before : IsClash (taken_of request_taken) one_asked.requests (codes "a") 1
taken_before = record {
  there = record { request = one_request; asked = (0, omega arith, refl); client_is = refl; number_is = refl; clashes = refl };
  first = All-from_recursion (λ (r : Request). clashes (taken_of request_taken) r ≡ true → no_later (codes "a", 1) (r.client, r.number) ≡ true) (one_request ∷ []) ((λ is. refl), tt);
}

pub clashes_here : HasTakenOther one_asked.flows 1 one_asked.digest (directory requests_bytes earlier_log) one_asked.requests (codes "a") 1
clashes_here = record {
  logs = earlier_logs;
  kept = λ partition below. earlier_in partition (omega (arith, below));
  none_left = λ partition below. let is : 0 ≡ partition = omega (arith, below) in subst (λ (p : ℕ). (placed one_flow 1 earlier_logs).left p ≡ []) is refl;
  clash = subst (λ (t : Taken). IsClash t one_asked.requests (codes "a") 1) (sym (same_taken request_taken (placed one_flow 1 earlier_logs).states refl)) taken_before;
}

-- ---- files to be refused

pub refused_input : AreUnfit (by_steps 1) (three_files (codes "{}") [] (codes "[]"))
refused_input = for_input (causes.BadPlan places.Whole) refusal_plan

pub refused_logs : AreUnfit (by_steps 1) (directory requests_bytes empty_log)
refused_logs = for_logs one_asked (asks_here empty_log) (refusals.Refused (errors.OtherFlows digest one_asked.digest), tt, other_first)

pub refused_clash : AreUnfit (by_steps 1) (directory requests_bytes earlier_log)
refused_clash = for_logs one_asked (asks_here earlier_log) (refusals.Clash (codes "a") 1, tt, clashes_here)
