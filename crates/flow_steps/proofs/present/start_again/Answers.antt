use Rattle.std.proofs.Common.{◌≡◌, ◌∙◌, IfOk, ap, subst}
use Rattle.std.specs.Prelude.{codes}
use Rattle.dura_value.specs.Messages.{was_there}
use Rattle.dura_value.specs.Views.{id_of, reply_of, messages_of}
use Rattle.dura_model.specs.World.{Orchestration}
use Rattle.dura_model.specs.Deliveries.{stays_so, refusing}
use Rattle.flow_steps.specs.Views.{instance_of}
use Rattle.flow_steps.proofs.present.start_again.Goals as goal

pub returns : goal.returns
returns c =
    let o = instance_of c.args.instance in
    let refused = refusing (id_of c.args.to.now) (id_of c.args.from.now) (reply_of c.args.reply.now) was_there (codes "exists") in
    let told = subst (λ r. IfOk r (λ s. messages_of s.items ≡ refused)) c.in_ok-sent.ensures.ok.0 c.refuse-refusal.ensures in
    c.stay.ensures
    ∙ ap (λ (one : Orchestration). stays_so one.machine one.waiting (messages_of c.in_ok-sent.sent.items)) (ap instance_of c.in_ok-sent.ensures.ok.1)
    ∙ ap (stays_so o.machine o.waiting) told
