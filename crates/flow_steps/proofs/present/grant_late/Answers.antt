use Rattle.std.proofs.Common.{◌∙◌, false, List, Some, map, IfOk, ap, subst}
use Rattle.dura_value.specs.Messages.{Message}
use Rattle.dura_value.specs.Views.{messages_of}
use Rattle.flow_syntax.specs.Machine.{Machine, Asked, was_granted, resume}
use Rattle.flow_messages.specs.Views.{asked_of}
use Rattle.flow_replay.specs.Resuming.{Resumes}
use Rattle.dura_model.specs.World.{Orchestration}
use Rattle.dura_model.specs.Deliveries.{Effect}
use Rattle.flow_steps.specs.Views.{instance_of}
use Rattle.flow_steps.proofs.present.grant_late.Goals as goal

-- it is there, and nothing is given up
abbrev stands : Orchestration → List Message → List Asked → Effect
stands o sent asked = record { instance = Some o; sent = sent; asked = asked; gives_up = false }

pub returns : goal.returns
returns c =
    let o = instance_of c.args.instance in
    let r = resume o.machine (was_granted c.args.task) c.args.stamp in
    let sent = messages_of c.in_ok-made.made.messages.items in
    let asked = map asked_of c.new.result.items in
    let resumed = subst (λ a. IfOk a (λ made. Resumes made c.advance-made.new.machine r)) c.in_ok-made.ensures.ok.0 c.advance-made.ensures in
    let after : Machine → Orchestration = λ m. record { machine = m; waiting = o.waiting } in
    ap (λ (one : Orchestration). stands one sent asked) (ap instance_of c.in_ok-made.ensures.ok.1 ∙ ap after resumed.machine)
    ∙ ap (λ s. stands (after r.machine) s asked) resumed.sent
    ∙ ap (λ a. stands (after r.machine) r.sent (map asked_of a)) c.new.ensures.items
