use Rattle.std.proofs.Common.{◌≡◌, ◌∙◌, IfOk, ap, subst}
use Rattle.dura_value.specs.Views.{answer_of, id_of, messages_of}
use Rattle.dura_model.specs.World.{Orchestration}
use Rattle.dura_model.specs.Deliveries.{stays_so, telling}
use Rattle.flow_steps.specs.Views.{instance_of}
use Rattle.flow_steps.proofs.present.tell_end.Goals as goal

pub returns : goal.returns
returns c =
    let o = instance_of c.args.instance in
    let telling_so = telling (id_of c.args.to.now) (id_of c.args.from.now) c.args.number (answer_of c.args.answer) in
    let told = subst (λ r. IfOk r (λ s. messages_of s.items ≡ telling_so)) c.in_ok-sent.ensures.ok.0 c.tell.ensures in
    c.stay.ensures
    ∙ ap (λ (one : Orchestration). stays_so one.machine one.waiting (messages_of c.in_ok-sent.sent.items)) (ap instance_of c.in_ok-sent.ensures.ok.1)
    ∙ ap (stays_so o.machine o.waiting) told
