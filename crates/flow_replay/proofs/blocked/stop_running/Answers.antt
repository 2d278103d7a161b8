use Rattle.std.proofs.Common.{◌∙◌, OnOk, codes, map, ap, sym, subst}
use Rattle.std.proofs.lemmas.List.{append-nil}
use Rattle.dura_value.specs.Views.{messages_of}
use Rattle.flow_syntax.specs.Machine.{ended, failed}
use Rattle.flow_messages.specs.Views.{asked_of}
use Rattle.flow_machine.specs.Views.{machine_of}
use Rattle.flow_machine.specs.Steps.{Makes}
use Rattle.flow_replay.specs.Moving.{Takes}
use Rattle.flow_replay.proofs.Taken.{put_back, stops_there, stops_short}
use Rattle.flow_replay.proofs.blocked.stop_running.Goals as goal

pub returns-then-stays : goal.returns-then-stays
returns-then-stays c =
    let before = machine_of c.args.machine.now in
    let old = machine_of c.take_next.new.machine in
    let taken = subst (λ o. Takes before old o) c.in-Some.is c.in_ok-todo.ensures in
    let back = put_back (machine_of c.plan.new.self) before old c.in-Some.todo taken c.in_ok-plan.ensures in
    subst (λ r. Makes c.args.made.now c.args.made.now c.plan.new.self r) (sym (stops_there c.in_ok-stays.stays before old c.in-Some.todo c.if-stays.true taken c.in_ok-stays.ensures))
    (record { machine = back; sent = sym (append-nil (messages_of c.args.made.now.messages.items)); asked = sym (append-nil (map asked_of c.args.made.now.asked.items)) })

pub returns-else-stays : goal.returns-else-stays
returns-else-stays c =
    let before = machine_of c.args.machine.now in
    let old = machine_of c.take_next.new.machine in
    let taken = subst (λ o. Takes before old o) c.in-Some.is c.in_ok-todo.ensures in
    let back = put_back (machine_of c.plan.new.self) before old c.in-Some.todo taken c.in_ok-plan.ensures in
    subst (λ r. OnOk c.fail.result (Makes c.args.made.now c.fail.new.made c.fail.new.machine r)) (ap (λ m. ended m (failed (codes "budget"))) back ∙ sym (stops_short c.in_ok-stays.stays before old c.in-Some.todo c.if-stays.false taken c.in_ok-stays.ensures)) c.fail.ensures
