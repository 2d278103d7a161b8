use Rattle.std.proofs.Common.{◌∙◌, ap, sym}
use Rattle.dura_value.specs.Views.{id_of, body_of, messages_of}
use Rattle.part_rows.specs.Parts.{part_of}
use Rattle.part_steps.proofs.PutBack.{instance_sends, instance_stands, entity_sends, entity_stands, client_sends, client_stands}
use Rattle.part_steps.proofs.reaching.reach.Goals as goal

pub returns-in_ok-sent-in-Entity-clause-sent : goal.returns-in_ok-sent-in-Entity-clause-sent
returns-in_ok-sent-in-Entity-clause-sent g c =
    c.in_ok-sent-in-Entity.ensures.sent
    ∙ sym (entity_sends (g.R.Reactions.flows c.args.reactions.now) (part_of c.args.rows.now) c.in-Entity.class c.in-Entity.field-1 (id_of c.args.message.now.from) (id_of c.args.message.now.to) c.args.stamp (body_of c.args.message.now.body) (ap id_of c.in-Entity.is))

pub returns-in_ok-sent-in-Entity-clause-stands : goal.returns-in_ok-sent-in-Entity-clause-stands
returns-in_ok-sent-in-Entity-clause-stands g c =
    c.in_ok-sent-in-Entity.ensures.stands
    ∙ sym (entity_stands (g.R.Reactions.flows c.args.reactions.now) c.args.rows.now.partitions (part_of c.args.rows.now) c.in-Entity.class c.in-Entity.field-1 (id_of c.args.message.now.from) (id_of c.args.message.now.to) c.args.stamp (body_of c.args.message.now.body) (ap id_of c.in-Entity.is))

pub returns-in_ok-sent-in-Flow-clause-sent : goal.returns-in_ok-sent-in-Flow-clause-sent
returns-in_ok-sent-in-Flow-clause-sent g c =
    c.in_ok-sent-in-Flow.ensures.sent
    ∙ sym (instance_sends (g.R.Reactions.flows c.args.reactions.now) (part_of c.args.rows.now) c.in-Flow.field-0 c.in-Flow.field-1 (id_of c.args.message.now.from) (id_of c.args.message.now.to) c.args.stamp (body_of c.args.message.now.body) (ap id_of c.in-Flow.is))

pub returns-in_ok-sent-in-Flow-clause-stands : goal.returns-in_ok-sent-in-Flow-clause-stands
returns-in_ok-sent-in-Flow-clause-stands g c =
    c.in_ok-sent-in-Flow.ensures.stands
    ∙ sym (instance_stands (g.R.Reactions.flows c.args.reactions.now) c.args.rows.now.partitions (part_of c.args.rows.now) c.in-Flow.field-0 c.in-Flow.field-1 (id_of c.args.message.now.from) (id_of c.args.message.now.to) c.args.stamp (body_of c.args.message.now.body) (ap id_of c.in-Flow.is))

pub returns-in_ok-receive-in-Client-clause-sent : goal.returns-in_ok-receive-in-Client-clause-sent
returns-in_ok-receive-in-Client-clause-sent g c =
    ap messages_of c.new.ensures.items
    ∙ sym (client_sends (g.R.Reactions.flows c.args.reactions.now) (part_of c.args.rows.now) c.in-Client.field-0 (id_of c.args.message.now.from) (id_of c.args.message.now.to) c.args.stamp (body_of c.args.message.now.body) (ap id_of c.in-Client.is))

pub returns-in_ok-receive-in-Client-clause-stands : goal.returns-in_ok-receive-in-Client-clause-stands
returns-in_ok-receive-in-Client-clause-stands g c =
    c.in_ok-receive-in-Client.ensures.received
    ∙ sym (client_stands (g.R.Reactions.flows c.args.reactions.now) c.args.rows.now.partitions (part_of c.args.rows.now) c.in-Client.field-0 (id_of c.args.message.now.from) (id_of c.args.message.now.to) c.args.stamp (body_of c.args.message.now.body) (ap id_of c.in-Client.is))
