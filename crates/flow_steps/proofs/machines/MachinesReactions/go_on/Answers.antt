use Rattle.std.proofs.Common.{◌≡◌, ◌∙◌, [], Some, IfOk, ap, subst}
use Rattle.dura_value.specs.Views.{id_of, messages_of}
use Rattle.dura_model.specs.Deliveries.{goes_on_from}
use Rattle.dura_model.specs.Partition.{instance_in}
use Rattle.dura_model.specs.World.{Orchestration}
use Rattle.flow_messages.specs.Views.{event_of as seen}
use Rattle.flow_messages.specs.declared.events.Event.{Event}
use Rattle.part_rows.specs.Reactions.{reaction}
use Rattle.part_rows.specs.Views.{row_of}
use Rattle.flow_steps.specs.Views.{instance_of, effect_of, flows_by}
use Rattle.flow_steps.proofs.machines.MachinesReactions.go_on.Goals as goal

pub returns : goal.returns
returns c =
    let stamp = c.args.stamp in
    let event = seen c.args.event in
    let was = instance_of c.in_ok-instance.instance in
    let instance = subst (λ r. IfOk r (λ o. instance_of o ≡ instance_in (flows_by c.args.self.now) (id_of c.args.id.now) (row_of c.args.row.now))) c.in_ok-instance.ensures.ok.0 c.instance_of_row.ensures in
    let effect =
    subst (λ r. IfOk r (λ e. effect_of e ≡ goes_on_from was (seen c.in_ok-instance.event) stamp (messages_of c.new.result.items))) c.in_ok-effect.ensures.ok.0 c.go_on_from-gone_on.ensures
    ∙ ap (λ before. goes_on_from was (seen c.in_ok-instance.event) stamp (messages_of before)) c.new.ensures.items
    ∙ ap (λ (e : Event). goes_on_from was (seen e) stamp []) c.in_ok-instance.ensures.ok.1
    ∙ ap (λ (o : Orchestration). goes_on_from o event stamp []) instance in
    c.as_reaction.ensures
    ∙ ap (λ (e : Event). reaction (Some (seen e)) (effect_of c.in_ok-effect.effect)) (c.in_ok-effect.ensures.ok.1 ∙ c.in_ok-instance.ensures.ok.1)
    ∙ ap (reaction (Some event)) effect
