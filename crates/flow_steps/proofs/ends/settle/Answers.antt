use Rattle.std.proofs.Common.{◌≡◌, ◌∙◌, map, None, IfOk, ap, subst, sym}
use Rattle.std.specs.Prelude.{option_map}
use Rattle.dura_value.specs.Views.{answer_of, messages_of}
use Rattle.flow_messages.specs.Views.{asked_of}
use Rattle.dura_model.specs.World.{Orchestration}
use Rattle.dura_model.specs.Deliveries.{Effect, ending}
use Rattle.flow_steps.specs.Ends.{ended_with, settled_with}
use Rattle.flow_steps.specs.Views.{instance_of, effect_of}
use Rattle.flow_steps.proofs.ends.settle.Goals as goal

pub returns-in-Some : goal.returns-in-Some
returns-in-Some c =
    let o = instance_of c.args.instance in
    let sent = messages_of c.args.sent.items in
    let asked = map asked_of c.args.asked.items in
    let told = subst (λ r. IfOk r (λ a. option_map answer_of a ≡ ending o.machine.progress)) c.in_ok-answer.ensures.ok.0 c.end_answer.ensures in
    let ended = sym told ∙ ap (option_map answer_of) c.in-Some.is in
    subst (λ (f : Effect). IfOk c.finish-effect.result (λ e. effect_of e ≡ f)) (
    ap (λ (one : Orchestration). ended_with one sent (answer_of c.in-Some.answer)) (ap instance_of c.in_ok-answer.ensures.ok.1)
    ∙ ap (settled_with o sent asked) (sym ended)
    ) c.finish-effect.ensures

pub returns-in-None : goal.returns-in-None
returns-in-None c =
    let o = instance_of c.args.instance in
    let sent = messages_of c.args.sent.items in
    let asked = map asked_of c.args.asked.items in
    let told = subst (λ r. IfOk r (λ a. option_map answer_of a ≡ ending o.machine.progress)) c.in_ok-answer.ensures.ok.0 c.end_answer.ensures in
    let ended = sym told ∙ ap (option_map answer_of) c.in-None.is in
    ap (λ (one : Orchestration). settled_with one sent asked None) (ap instance_of c.in_ok-answer.ensures.ok.1) ∙ ap (settled_with o sent asked) (sym ended)
