use Rattle.std.proofs.Common.{◌≡◌, ◌∙◌, ap, sym, subst, Option, Some, IfSome, true}
use Rattle.dura_value.specs.Ids.{id_eq}
use Rattle.dura_value.specs.Views.{id_of, body_of}
use Rattle.dura_value.specs.declared.messages.Message.{Message}
use Rattle.dura_value.proofs.Ids.{id_same}
use Rattle.part_rows.specs.Parts.{part_of}
use Rattle.part_rows.specs.Queues.{is_of_link, said_in}
use Rattle.part_rows.specs.declared.parts.PartRows.{PartRows}
use Rattle.part_steps.specs.Outputs.{outputs_of}
use Rattle.part_steps.proofs.Delivering.{run_accepts, run_outputs}
use Rattle.part_steps.proofs.applying.run.Goals as goal
use Rattle.std.proofs.lemmas.Bool.{and_parts}

pub returns-clause-applied : goal.returns-clause-applied
returns-clause-applied g c =
    let was = part_of c.args.rows.now in
    let from = id_of c.args.from.now in
    let to = id_of c.args.to.now in
    let message : Message = c.get.result.now in
    let mid : PartRows = record c.args.rows.now { queue = c.take_first.new.self } in
    let taken : c.in_ok-message.field-0 ≡ Some message = c.in-Some.is ∙ ap Some (sym c.get.ensures) in
    let first = sym (ap said_in taken) ∙ c.in_ok-message.ensures.first in
    let link = subst (λ (o : Option Message). IfSome o (λ m. is_of_link from to m ≡ true)) taken c.in_ok-message.ensures.link in
    let both = and_parts (id_eq from (id_of message.from)) (id_eq to (id_of message.to)) link in
    let sender = sym (id_same from (id_of message.from) both.0) in
    let receiver = sym (id_same to (id_of message.to) both.1) in
    let left = ap (λ q. record was { queue = q }) c.in_ok-message.ensures.rest in (
      run_accepts (g.R.Reactions.flows c.args.reactions.now) c.args.rows.now.partitions was from to c.args.stamp (part_of mid) (part_of c.reach_first-made.new.rows) (id_of message.from) (id_of message.to) (body_of message.body)
          (sym c.takes_at.ensures ∙ c.if-not-takes_at.false) first left sender receiver c.in_ok-made.ensures.stands,
      run_outputs (g.R.Reactions.flows c.args.reactions.now) c.args.rows.now.partitions was from to c.args.stamp (part_of mid) (id_of message.from) (id_of message.to) (body_of message.body) (outputs_of c.in_ok-made.field-0)
          first left sender receiver c.in_ok-made.ensures.outputs,
    )
