use Rattle.std.proofs.Common.{◌≡◌, ◌∙◌, [], Some, IfOk, ap, subst}
use Rattle.dura_value.specs.Views.{id_of, reply_of, messages_of}
use Rattle.flow_syntax.specs.Machine.{new_machine, Event, started}
use Rattle.flow_messages.specs.Views.{event_of}
use Rattle.flow_machine.specs.Views.{body_of}
use Rattle.dura_model.specs.World.{Orchestration}
use Rattle.dura_model.specs.Deliveries.{goes_on_from, Effect}
use Rattle.flow_steps.specs.Views.{instance_of, effect_of}
use Rattle.flow_steps.proofs.absent.begin_with.Goals as goal

pub returns : goal.returns
returns c =
    let o : Orchestration = record { machine = new_machine (id_of c.args.message.now.to) (Some (body_of c.args.body)); waiting = [] } in
    let wanted = started (id_of c.args.message.now.from) c.args.argument.now (reply_of c.args.reply.now) in
    let instance = subst (λ r. IfOk r (λ i. instance_of i ≡ o)) c.in_ok-instance.ensures.ok.0 c.new_instance-made.ensures in
    let heard = ap event_of c.in_ok-instance.ensures.ok.1 ∙ c.in_ok-event.ensures in
    let before = messages_of c.in_ok-before.before.items in
    subst (λ (f : Effect). IfOk c.go_on_from-effect.result (λ e. effect_of e ≡ f)) (
    ap (λ (one : Orchestration). goes_on_from one (event_of c.in_ok-instance.event) c.args.stamp before) instance
    ∙ ap (λ (event : Event). goes_on_from o event c.args.stamp before) heard
    ∙ ap (goes_on_from o wanted c.args.stamp) c.in_ok-before.ensures
    ) c.go_on_from-effect.ensures
