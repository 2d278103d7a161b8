use Rattle.std.proofs.Common.{◌≡◌, ◌∙◌, [], IfOk, ap, subst, sym}
use Rattle.dura_value.specs.Messages.{Answer}
use Rattle.dura_value.specs.Views.{answer_of, messages_of}
use Rattle.flow_syntax.specs.Machine.{resulted}
use Rattle.dura_model.specs.World.{Orchestration}
use Rattle.dura_model.specs.Deliveries.{Effect, stays_so, goes_on_from, result_at}
use Rattle.flow_steps.specs.Views.{instance_of, effect_of}
use Rattle.flow_steps.proofs.present.take_result.Goals as goal

pub returns-then-has_ended : goal.returns-then-has_ended
returns-then-has_ended c =
    let o = instance_of c.args.instance in
    let ended = sym c.has_ended.ensures ∙ c.if-has_ended.true in
    c.stay.ensures ∙ ap (λ ms. stays_so o.machine o.waiting (messages_of ms)) c.new.ensures.items ∙ ap (result_at o c.args.stamp c.args.task (answer_of c.args.answer.now)) (sym ended)

pub returns : goal.returns
returns c =
    let o = instance_of c.args.instance in
    let runs = sym c.has_ended.ensures ∙ c.if-has_ended.false in
    let answer = subst (λ r. IfOk r (λ a. a ≡ c.args.answer.now)) c.in_ok-answer.ensures.ok.0 c.copy_answer.ensures in
    subst (λ (f : Effect). IfOk c.go_on-effect.result (λ e. effect_of e ≡ f)) (
    ap (λ (one : Orchestration). goes_on_from one (resulted c.args.task (answer_of c.in_ok-answer.answer)) c.args.stamp []) (ap instance_of c.in_ok-answer.ensures.ok.1)
    ∙ ap (λ (a : Answer). goes_on_from o (resulted c.args.task a) c.args.stamp []) (ap answer_of answer)
    ∙ ap (result_at o c.args.stamp c.args.task (answer_of c.args.answer.now)) (sym runs)
    ) c.go_on-effect.ensures
