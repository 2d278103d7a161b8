use Rattle.std.proofs.Common.{◌≡◌, ℕ, IfOk, ap, subst, sym}
use Rattle.dura_value.specs.Views.{id_of, body_of}
use Rattle.dura_value.specs.declared.messages.Body.{Body}
use Rattle.dura_value.specs.declared.messages.Message.{Message}
use Rattle.dura_model.specs.Deliveries.{Effect, to_present}
use Rattle.flow_steps.specs.Views.{instance_of, effect_of}
use Rattle.flow_steps.specs.declared.instance.Instance.{Instance}
use Rattle.flow_steps.proofs.present.to_it.Goals as goal

-- what a message to it makes that says this
abbrev said : Instance → Message → ℕ → Body → Effect
said instance message stamp body = to_present (instance_of instance) (id_of message.from) (id_of message.to) stamp (body_of body)

pub returns-in-Start : goal.returns-in-Start
returns-in-Start c = subst (λ (f : Effect). IfOk c.start_again.result (λ e. effect_of e ≡ f)) (ap (said c.args.instance c.args.message.now c.args.stamp) (sym c.in-Start.is)) c.start_again.ensures

pub returns-in-Query : goal.returns-in-Query
returns-in-Query c = subst (λ (f : Effect). IfOk c.query.result (λ e. effect_of e ≡ f)) (ap (said c.args.instance c.args.message.now c.args.stamp) (sym c.in-Query.is)) c.query.ensures

pub returns-in-Wait : goal.returns-in-Wait
returns-in-Wait c = subst (λ (f : Effect). IfOk c.wait.result (λ e. effect_of e ≡ f)) (ap (said c.args.instance c.args.message.now c.args.stamp) (sym c.in-Wait.is)) c.wait.ensures

pub returns-in-Raise : goal.returns-in-Raise
returns-in-Raise c = subst (λ (f : Effect). IfOk c.raise.result (λ e. effect_of e ≡ f)) (ap (said c.args.instance c.args.message.now c.args.stamp) (sym c.in-Raise.is)) c.raise.ensures

pub returns-in-Granted : goal.returns-in-Granted
returns-in-Granted c = subst (λ (f : Effect). IfOk c.grant.result (λ e. effect_of e ≡ f)) (ap (said c.args.instance c.args.message.now c.args.stamp) (sym c.in-Granted.is)) c.grant.ensures
