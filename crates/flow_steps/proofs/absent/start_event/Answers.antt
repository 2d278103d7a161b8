use Rattle.std.proofs.Common.{◌≡◌, ◌∙◌, IfOk, ap, subst}
use Rattle.dura_value.specs.Views.{id_of, reply_of}
use Rattle.flow_syntax.specs.Machine.{started}
use Rattle.flow_steps.proofs.absent.start_event.Goals as goal

pub returns : goal.returns
returns c =
    let from = c.in_ok-argument.ensures.ok.1 ∙ c.in_ok-copy_id.ensures in
    let argument = subst (λ r. IfOk r (λ a. a ≡ c.args.argument.now)) c.in_ok-argument.ensures.ok.0 c.copy_value.ensures in
    ap (λ f. started (id_of f) c.in_ok-argument.argument (reply_of c.copy_reply.result)) from
    ∙ ap (λ a. started (id_of c.args.from.now) a (reply_of c.copy_reply.result)) argument
    ∙ ap (λ r. started (id_of c.args.from.now) c.args.argument.now (reply_of r)) c.copy_reply.ensures
