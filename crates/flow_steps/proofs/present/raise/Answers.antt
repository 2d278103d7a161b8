use Rattle.std.proofs.Common.{◌≡◌, ◌∙◌, IfOk, ap, subst, sym}
use Rattle.dura_value.specs.Messages.{has_ended, was_raised as answered_so}
use Rattle.dura_value.specs.Views.{id_of, messages_of}
use Rattle.flow_syntax.specs.Machine.{Event, was_raised}
use Rattle.flow_messages.specs.Views.{event_of}
use Rattle.dura_model.specs.World.{Orchestration}
use Rattle.dura_model.specs.Deliveries.{Effect, stays_so, goes_on_from, raised_at, telling}
use Rattle.flow_steps.specs.Views.{instance_of, effect_of}
use Rattle.flow_steps.proofs.present.raise.Goals as goal

pub returns-then-has_ended : goal.returns-then-has_ended
returns-then-has_ended c =
    let o = instance_of c.args.instance in
    let from = id_of c.args.message.now.from in
    let to = id_of c.args.message.now.to in
    let ended = sym c.has_ended.ensures ∙ c.if-has_ended.true in
    let told = subst (λ r. IfOk r (λ s. messages_of s.items ≡ telling to from c.args.number has_ended)) c.in_ok-sent.ensures.ok.0 c.tell-told.ensures in
    c.stay.ensures
    ∙ ap (λ (one : Orchestration). stays_so one.machine one.waiting (messages_of c.in_ok-sent.sent.items)) (ap instance_of c.in_ok-sent.ensures.ok.1)
    ∙ ap (stays_so o.machine o.waiting) told
    ∙ ap (raised_at o from to c.args.stamp c.args.name.now c.args.value.now c.args.number) (sym ended)

pub returns : goal.returns
returns c =
    let o = instance_of c.args.instance in
    let from = id_of c.args.message.now.from in
    let to = id_of c.args.message.now.to in
    let wanted = was_raised c.args.name.now c.args.value.now in
    let runs = sym c.has_ended.ensures ∙ c.if-has_ended.false in
    let both = subst (λ r. IfOk r (λ b. (messages_of b.0.items ≡ telling to from c.args.number answered_so) × (event_of b.1 ≡ wanted))) c.in_ok-before.ensures.ok.0 c.raising-both.ensures in
    let before = messages_of c.in_ok-before.before.items in
    subst (λ (f : Effect). IfOk c.go_on_from-effect.result (λ e. effect_of e ≡ f)) (
    ap (λ (one : Orchestration). goes_on_from one (event_of c.in_ok-before.event) c.args.stamp before) (ap instance_of c.in_ok-before.ensures.ok.1)
    ∙ ap (λ (event : Event). goes_on_from o event c.args.stamp before) both.1
    ∙ ap (goes_on_from o wanted c.args.stamp) both.0
    ∙ ap (raised_at o from to c.args.stamp c.args.name.now c.args.value.now c.args.number) (sym runs)
    ) c.go_on_from-effect.ensures
