use Rattle.std.proofs.Common.{◌∙◌, ap}
use Rattle.dura_value.specs.Views.{id_of, body_of}
use Rattle.dura_model.specs.Deliveries.{to_instance}
use Rattle.dura_model.specs.Partition.{instance_in, instance_at, event_of}
use Rattle.shared_maps.specs.Maps.{by_id}
use Rattle.part_rows.specs.Parts.{part_of}
use Rattle.part_rows.specs.Reactions.{Reaction, reaction_of}
use Rattle.part_rows.specs.Views.{row_of}
use Rattle.part_steps.proofs.PutBack.{kept_stands, seen_by}
use Rattle.part_steps.proofs.reaching.reach_instance.Goals as goal

pub returns-clause-stands : goal.returns-clause-stands
returns-clause-stands g c =
    let flows = g.R.Reactions.flows c.args.reactions.now in
    let was = part_of c.args.rows.now in
    let from = id_of c.args.message.now.from in
    let to = id_of c.args.message.now.to in
    let body = body_of c.args.message.now.body in
    let o = instance_at flows was to in
    let there = seen_by (λ r. r.now) row_of (instance_in flows to) c.get-row.result (by_id c.args.rows.now.instances to) c.get-row.ensures in
    kept_stands c.args.rows.now.partitions was (part_of c.keep.new.rows) to c.args.stamp (event_of flows o from to body) (to_instance flows o from to c.args.stamp body) (reaction_of c.in_ok-made.made)
    (c.in_ok-made.ensures o there) c.in_ok-sent.ensures.stands

pub returns-clause-sent : goal.returns-clause-sent
returns-clause-sent g c =
    let flows = g.R.Reactions.flows c.args.reactions.now in
    let to = id_of c.args.message.now.to in
    let there = seen_by (λ r. r.now) row_of (instance_in flows to) c.get-row.result (by_id c.args.rows.now.instances to) c.get-row.ensures in
    c.in_ok-sent.ensures.sent ∙ ap (λ (r : Reaction). r.sent) (c.in_ok-made.ensures (instance_at flows (part_of c.args.rows.now) to) there)
