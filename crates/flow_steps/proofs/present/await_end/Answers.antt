use Rattle.std.proofs.Common.{◌≡◌, ◌∙◌, [], ◌∷◌, ◌++◌, IfOk, ap, subst}
use Rattle.dura_value.specs.Views.{id_of, messages_of}
use Rattle.flow_machine.specs.Views.{machine_of}
use Rattle.dura_model.specs.Deliveries.{stays_so}
use Rattle.part_rows.specs.Reactions.{waits_of}
use Rattle.flow_steps.specs.Views.{instance_of}
use Rattle.flow_steps.proofs.present.await_end.Goals as goal

pub returns : goal.returns
returns c =
    let o = instance_of c.args.instance in
    let waiting = waits_of c.in_ok-waiting.waiting.items in
    let all = o.waiting ++ (id_of c.args.from.now, c.args.number) ∷ [] in
    let sent = messages_of c.new.result.items in
    let more = subst (λ r. IfOk r (λ all. waits_of all.items ≡ o.waiting ++ (id_of c.args.from.now, c.args.number) ∷ [])) c.in_ok-waiting.ensures.ok.0 c.with_client.ensures in
    c.stay.ensures
    ∙ ap (λ m. stays_so (machine_of m) waiting sent) c.in_ok-waiting.ensures.ok.1
    ∙ ap (λ w. stays_so o.machine w sent) more
    ∙ ap (λ ms. stays_so o.machine all (messages_of ms)) c.new.ensures.items
