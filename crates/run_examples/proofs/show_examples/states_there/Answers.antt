use Rattle.std.proofs.Common.{◌≡◌, ℕ, ap, subst, refl, arith}
use Rattle.dura_model.specs.Partition.{Partition, fresh}
use Rattle.flow_syntax.specs.Syntax.{Flows}
use Rattle.part_items.specs.Examples.{digest, empty_log}
use Rattle.run_rules.specs.Examples.{request_taken}
use Rattle.part_items.specs.Logs.{refused, other_flows, logs_in, alone_with}
use Rattle.recover_core.specs.declared.error.RecoverError.TheVariants as errors
use Rattle.run_examples.specs.Calls.{one_asked, no_flows}
use Rattle.run_examples.specs.Directories.{directory}
use Rattle.log_files.specs.Checked.{asked_for}
use Rattle.run_examples.proofs.LogsKept.{other_kept}
use Rattle.run_examples.proofs.Ready.{other_first}
use Rattle.run_examples.proofs.Shown.{is_there, only_fresh, no_refusal, earlier_there, earlier_done}
use Rattle.run_inputs.specs.Examples.{one_flow, requests_bytes}
use Rattle.run_inputs.proofs.Computed.{flows_of_one, flows_refusal_one}
use Rattle.run_examples.proofs.show_examples.states_there.Goals as goal

pub returns-clause-there : goal.returns-clause-there
returns-clause-there c = is_there

pub returns-clause-other_flows : goal.returns-clause-other_flows
returns-clause-other_flows c = λ there.
    let same : one_flow ≡ no_flows = cc (flows_of_one, there.flows_in_file.flows_in_file) in
    let flows = ap (λ (f : Flows). f.flows) same in
    cc flows

pub returns-clause-other_state : goal.returns-clause-other_state
returns-clause-other_state c = λ there. let place : 0 ≡ 1 = ap (λ (f : ℕ → Partition). (f 0).position) (only_fresh one_flow (λ partition. request_taken) there) in omega (arith, place)

pub returns-clause-refused : goal.returns-clause-refused
returns-clause-refused c = (one_flow, one_asked.digest, record { accepted = flows_refusal_one; flows_in_file = flows_of_one; digest_of_file = refl }, other_first)

pub returns-clause-other_digest : goal.returns-clause-other_digest
returns-clause-other_digest c = λ refuses.
    let below = refuses.3.below in
    let here : refuses.3.partition ≡ 0 = omega (arith, below) in
    let at = subst (λ (p : ℕ). logs_in (asked_for 1 refuses.1 p) (directory requests_bytes empty_log) ≡ refused (other_flows 1)) here refuses.3.refused.0 in
    let found = subst (λ (n : ℕ). logs_in (alone_with n) (directory requests_bytes empty_log) ≡ refused (other_flows 1)) refuses.2.digest_of_file at in
    let same : digest ≡ 1 = cc (other_kept, found) in
    omega (arith, same)

pub returns-clause-accepted : goal.returns-clause-accepted
returns-clause-accepted c = λ refuses. no_refusal (errors.OtherFlows digest one_asked.digest) tt refuses

pub returns-clause-earlier : goal.returns-clause-earlier
returns-clause-earlier c = earlier_there

pub returns-clause-earlier_undone : goal.returns-clause-earlier_undone
returns-clause-earlier_undone c = λ there. earlier_done fresh there refl
