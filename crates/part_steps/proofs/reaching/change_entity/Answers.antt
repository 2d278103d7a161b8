use Rattle.std.proofs.Common.{◌≡◌, ◌∙◌, Option, Some, OnOk, ap, subst}
use Rattle.std.specs.Prelude.{option_map}
use Rattle.dura_value.specs.Views.{id_of, body_of, messages_of}
use Rattle.flow_syntax.specs.Entity.{Entity}
use Rattle.flow_messages.specs.Views.{entity_of}
use Rattle.dura_value.specs.ById.{at_id}
use Rattle.part_rows.specs.Parts.{part_of}
use Rattle.part_rows.specs.Reactions.{delivered}
use Rattle.part_steps.proofs.PutBack.{entity_put_back}
use Rattle.part_steps.proofs.reaching.change_entity.Goals as goal

pub returns-clause-kept : goal.returns-clause-kept
returns-clause-kept g c =
    let to = id_of c.args.message.now.to in
    let mid = part_of c.take_entity.new.self in
    let new = part_of c.put_entity.new.self in
    let after = entity_of c.in_ok-entity.entity in
    let put = subst (λ r. OnOk r (new ≡ record mid { entities = at_id mid.entities to (Some after) })) c.in_ok-sent.ensures.ok.0 c.put_entity.ensures.put in
    entity_put_back (g.R.Reactions.flows c.args.reactions.now) (part_of c.args.rows.now) mid new c.args.class.now (id_of c.args.message.now.from) to c.args.stamp (body_of c.args.message.now.body) (option_map entity_of c.in_ok-kept.kept) after
    c.in_ok-kept.ensures.entity c.in_ok-kept.ensures.taken c.in_ok-entity.ensures.entity put

pub returns-clause-sent : goal.returns-clause-sent
returns-clause-sent g c =
    let flows = g.R.Reactions.flows c.args.reactions.now in
    let from = id_of c.args.message.now.from in
    let to = id_of c.args.message.now.to in
    let body = body_of c.args.message.now.body in
    ap (λ s. messages_of s.items) c.in_ok-sent.ensures.ok.1
    ∙ c.in_ok-entity.ensures.sent ∙ ap (λ (k : Option Entity). (delivered flows c.args.class.now k from to c.args.stamp body).sent) c.in_ok-kept.ensures.entity
