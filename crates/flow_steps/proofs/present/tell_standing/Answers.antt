use Rattle.std.proofs.Common.{◌≡◌, IfOk, subst}
use Rattle.dura_value.specs.Messages.{Answer}
use Rattle.dura_value.specs.Views.{id_of, messages_of}
use Rattle.dura_model.specs.Deliveries.{telling}
use Rattle.flow_steps.proofs.present.tell_standing.Goals as goal

pub returns : goal.returns
returns c =
    let from = id_of c.args.from.now in
    let to = id_of c.args.to.now in
    subst (λ (a : Answer). IfOk c.tell.result (λ s. messages_of s.items ≡ telling to from c.args.number a)) c.in_ok-answer.ensures c.tell.ensures
