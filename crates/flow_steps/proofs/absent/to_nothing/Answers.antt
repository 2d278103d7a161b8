use Rattle.std.proofs.Common.{◌≡◌, IfOk, ap, subst, sym}
use Rattle.dura_value.specs.Views.{id_of, body_of}
use Rattle.flow_syntax.specs.Views.{flows_of}
use Rattle.dura_model.specs.Deliveries.{Effect, to_absent}
use Rattle.flow_steps.specs.Views.{effect_of}
use Rattle.flow_steps.proofs.absent.to_nothing.Goals as goal

pub returns-in-Start : goal.returns-in-Start
returns-in-Start c =
    let message = c.args.message.now in
    subst (λ (f : Effect). IfOk c.begin_instance.result (λ e. effect_of e ≡ f)) (ap (λ b. to_absent (flows_of c.args.flows.now) (id_of message.from) (id_of message.to) c.args.stamp (body_of b)) (sym c.in-Start.is)) c.begin_instance.ensures
