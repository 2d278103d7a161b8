use Rattle.std.proofs.Common.{rules, ◌≡◌, ◌∙◌, ◌++◌, [], ℕ, List, true, Some, map, ap, subst}
use Rattle.std.specs.Prelude.{OnOk}
use Rattle.dura_value.specs.Ids.{Id}
use Rattle.dura_value.specs.Messages.{Answer, Message}
use Rattle.dura_value.specs.Views.{answer_of, messages_of}
use Rattle.flow_syntax.specs.Machine.{Machine, Asked}
use Rattle.flow_messages.specs.Views.{asked_of}
use Rattle.flow_machine.specs.Views.{machine_of}
use Rattle.dura_model.specs.World.{Orchestration}
use Rattle.dura_model.specs.Deliveries.{Effect, answering_all}
use Rattle.flow_steps.specs.Ends.{ended_with}
use Rattle.part_rows.specs.Reactions.{waits_of}
use Rattle.flow_steps.specs.Views.{instance_of}
use Rattle.flow_steps.specs.declared.instance.Instance.{Instance}
use Rattle.flow_steps.proofs.ends.finish.Goals as goal

-- an instance with these that still wait, and all that is pending is given up
abbrev ends : Machine → List (Id × ℕ) → List Message → List Asked → Effect
ends m left sent asked = record { instance = Some (record { machine = m; waiting = left }); sent = sent; asked = asked; gives_up = true }

finished : (o : Orchestration) (m : Machine) (left : List (Id × ℕ)) (was sent : List Message) (asked : List Asked) (answer : Answer)
    → m ≡ o.machine → left ≡ [] → asked ≡ [] → sent ≡ was ++ answering_all o.machine.id o.waiting answer → ends m left sent asked ≡ ended_with o was answer
finished o m left was sent asked answer same none nothing all =
    ap (λ n. ends n left sent asked) same
    ∙ ap (λ l. ends o.machine l sent asked) none
    ∙ ap (ends o.machine [] sent) nothing
    ∙ ap (λ s. ends o.machine [] s []) all

pub returns : goal.returns
returns c =
    let o = instance_of c.args.instance in
    let was = messages_of c.args.sent.items in
    let sent = messages_of c.answer_all-answered.new.sent.items in
    let answer = answer_of c.args.answer.now in
    let told = subst (λ r. OnOk r (sent ≡ was ++ answering_all o.machine.id (waits_of c.deref.result.now) answer)) c.in_ok-instance.ensures.ok.0 c.answer_all-answered.ensures in
    let all = told ∙ ap (λ w. was ++ answering_all o.machine.id (waits_of w) answer) c.deref.ensures.value in
    finished o (machine_of c.in_ok-instance.instance.machine) _ was sent (map asked_of c.new.result.items) answer
    (ap (λ (i : Instance). machine_of i.machine) c.in_ok-instance.ensures.ok.1) (search rules) (ap (map asked_of) c.new.ensures.items) all
