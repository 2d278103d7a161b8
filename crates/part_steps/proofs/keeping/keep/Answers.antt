use Rattle.std.proofs.Common.{◌∙◌, map, ap}
use Rattle.dura_value.specs.Views.{id_of, messages_of}
use Rattle.flow_messages.specs.Views.{asked_of}
use Rattle.dura_model.specs.Partition.{Partition, post_all, asked_in, given_up_in}
use Rattle.part_rows.specs.Parts.{part_of}
use Rattle.part_steps.proofs.keeping.keep.Goals as goal

pub returns-clause-sent : goal.returns-clause-sent
returns-clause-sent c = c.in_ok-sent.ensures.sent

pub returns-clause-stands : goal.returns-clause-stands
returns-clause-stands c =
    let id = id_of c.args.id.now in
    let sent = messages_of c.args.made.sent.items in
    let asked = map asked_of c.args.made.asked.items in
    let count = c.in_ok-ask_all.ensures.partitions ∙ c.in_ok-give_up_if.ensures.partitions ∙ c.in_ok-put_row.ensures.partitions in
    let given_up = c.in_ok-give_up_if.ensures.given_up ∙ ap (λ (p : Partition). given_up_in p id c.args.made.gives_up) c.in_ok-put_row.ensures.put in
    c.in_ok-sent.ensures.posted
    ∙ ap (λ n. post_all n (part_of c.ask_all.new.self) sent) count
    ∙ ap (λ (p : Partition). post_all c.args.rows.now.partitions p sent) (c.in_ok-ask_all.ensures.asked ∙ ap (λ (p : Partition). asked_in p id asked) given_up)
