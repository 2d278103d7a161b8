use Rattle.std.proofs.Common.{◌≡◌, IfOk, ap, subst}
use Rattle.dura_value.specs.Views.{messages_of}
use Rattle.flow_messages.specs.Views.{event_of}
use Rattle.dura_model.specs.Deliveries.{Effect, goes_on_from}
use Rattle.flow_steps.specs.Views.{instance_of, effect_of}
use Rattle.flow_steps.proofs.present.go_on.Goals as goal

pub returns : goal.returns
returns c =
    subst (λ (f : Effect). IfOk c.go_on_from.result (λ e. effect_of e ≡ f)) (
    ap (λ ms. goes_on_from (instance_of c.args.instance) (event_of c.args.event.now) c.args.stamp (messages_of ms)) c.new.ensures.items
    ) c.go_on_from.ensures
