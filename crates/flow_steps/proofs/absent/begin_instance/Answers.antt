use Rattle.std.proofs.Common.{◌≡◌, IfOk, ap, subst}
use Rattle.dura_value.specs.Views.{id_of, reply_of}
use Rattle.dura_model.specs.Deliveries.{Effect, begun}
use Rattle.flow_steps.specs.Views.{effect_of}
use Rattle.flow_steps.proofs.absent.begin_instance.Goals as goal

pub returns-in-Some : goal.returns-in-Some
returns-in-Some c =
    let from = id_of c.args.message.now.from in
    let to = id_of c.args.message.now.to in
    subst (λ (f : Effect). IfOk c.begin_with.result (λ e. effect_of e ≡ f)) (ap (begun from to c.args.argument.now (reply_of c.args.reply.now) c.args.stamp) c.in-Some.ensures) c.begin_with.ensures
