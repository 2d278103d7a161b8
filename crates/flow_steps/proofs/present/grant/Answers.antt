use Rattle.std.proofs.Common.{◌≡◌, ◌∙◌, IfOk, ap, subst, sym}
use Rattle.dura_model.specs.Deliveries.{Effect, granted_at}
use Rattle.flow_steps.specs.Views.{instance_of, effect_of}
use Rattle.flow_steps.proofs.present.grant.Goals as goal

pub returns-then-has_ended : goal.returns-then-has_ended
returns-then-has_ended c =
    let ended = sym c.has_ended.ensures ∙ c.if-has_ended.true in
    subst (λ (f : Effect). IfOk c.grant_late.result (λ e. effect_of e ≡ f)) (ap (granted_at (instance_of c.args.instance) c.args.stamp c.args.task) (sym ended)) c.grant_late.ensures

pub returns : goal.returns
returns c =
    let runs = sym c.has_ended.ensures ∙ c.if-has_ended.false in
    subst (λ (f : Effect). IfOk c.go_on-effect.result (λ e. effect_of e ≡ f)) (ap (granted_at (instance_of c.args.instance) c.args.stamp c.args.task) (sym runs)) c.go_on-effect.ensures
