use Rattle.std.proofs.Common.{◌≡◌, ◌∙◌, ◌++◌, map, IfOk, refl, ap, subst}
use Rattle.dura_value.specs.Views.{messages_of}
use Rattle.flow_syntax.specs.Machine.{resume}
use Rattle.flow_messages.specs.Views.{event_of, asked_of}
use Rattle.flow_replay.specs.Resuming.{Resumes}
use Rattle.flow_machine.specs.Views.{machine_of}
use Rattle.dura_model.specs.World.{Orchestration}
use Rattle.dura_model.specs.Deliveries.{Effect, ending}
use Rattle.flow_steps.specs.Ends.{settled_with}
use Rattle.flow_steps.specs.Views.{instance_of, effect_of}
use Rattle.flow_steps.proofs.AtEnds.{at_an_end}
use Rattle.flow_steps.proofs.ends.go_on_from.Goals as goal

pub returns : goal.returns
returns c =
    let o = instance_of c.args.instance in
    let m = c.advance-advanced.new.machine in
    let r = resume o.machine (event_of c.args.event.now) c.args.stamp in
    let before = messages_of c.args.before.items in
    let made = messages_of c.in_ok-made.made.messages.items in
    let sent = messages_of c.in_ok-sent.sent.items in
    let asked = map asked_of c.in_ok-made.made.asked.items in
    let resumed = subst (λ a. IfOk a (λ made. Resumes made m r)) c.in_ok-made.ensures.ok.0 c.advance-advanced.ensures in
    let all = subst (λ a. IfOk a (λ all. messages_of all.items ≡ before ++ made)) c.in_ok-sent.ensures.ok.0 c.join.ensures in
    let moved = ap instance_of (c.in_ok-sent.ensures.ok.1 ∙ c.in_ok-made.ensures.ok.1) in
    let after = record o { machine = machine_of m } in
    let made_so = at_an_end (settled_with after sent asked (ending (machine_of m).progress)) (machine_of m) o.waiting before made sent asked r resumed.machine resumed.sent resumed.asked all refl in
    subst (λ (f : Effect). IfOk c.settle.result (λ e. effect_of e ≡ f)) (ap (λ (one : Orchestration). settled_with one sent asked (ending one.machine.progress)) moved ∙ made_so) c.settle.ensures
