use Rattle.std.proofs.Common.{◌≡◌, ◌∙◌, [], Option, None, Some, OnOk, ap, subst, sym}
use Rattle.std.specs.Prelude.{option_map}
use Rattle.dura_value.specs.Views.{id_of, answer_of}
use Rattle.flow_syntax.specs.Machine.{resulted}
use Rattle.dura_model.specs.Deliveries.{goes_on_from}
use Rattle.dura_model.specs.Partition.{instance_in}
use Rattle.dura_value.specs.ById.{at_number}
use Rattle.part_rows.specs.Parts.{part_of}
use Rattle.part_rows.specs.Reactions.{Reaction, reaction, reaction_of}
use Rattle.part_rows.specs.Views.{row_of}
use Rattle.part_rows.specs.declared.rows.Row.{Row}
use Rattle.part_rows.specs.declared.reactions.Reaction.{Reaction as Made}
use Rattle.part_steps.specs.Outputs.{outputs_of}
use Rattle.part_steps.proofs.Ending.{alone, over, over_outputs}
use Rattle.part_steps.proofs.PutBack.{kept_stands}
use Rattle.part_steps.proofs.applying.finish.Goals as goal

pub returns-clause-applied : goal.returns-clause-applied
returns-clause-applied g c =
    let flows = g.R.Reactions.flows c.args.reactions.now in
    let count = c.args.rows.now.partitions in
    let was = part_of c.args.rows.now in
    let id = id_of c.args.id.now in
    let o = instance_in flows id (row_of c.in-Some.row.now) in
    let there = ap (λ (k : Option Row). option_map (instance_in flows id) (option_map row_of k)) (sym c.get.ensures ∙ ap (option_map (λ r. r.now)) c.in-Some.is) in
    let answer = answer_of c.in_ok-answer.answer in
    let dropped = subst (λ r. OnOk r (part_of c.drop_activity.new.rows ≡ record was { activities = at_number was.activities id c.args.task None })) c.in_ok-made-2.ensures.ok.0 c.drop_activity.ensures.dropped in
    let effect = goes_on_from o (resulted c.args.task answer) o.machine.last [] in
    let made : reaction_of c.in_ok-made-2.made ≡ reaction (Some (resulted c.args.task answer)) effect = ap (λ (m : Made). reaction_of m) c.in_ok-made-2.ensures.ok.1 ∙ c.in_ok-made.ensures in
    let again = c.drop_activity.new.rows.partitions in
    let mid = part_of c.drop_activity.new.rows in
    let new = part_of c.keep_event.new.rows in
    let stands = kept_stands again mid new id o.machine.last (Some (resulted c.args.task answer)) effect (reaction_of c.in_ok-made-2.made) made c.in_ok-outputs.ensures.stands in (
      over flows count was id c.args.task c.args.outcome.now o again mid new answer there (sym c.is_pending.ensures ∙ c.if-not-is_pending.false) dropped c.drop_activity.ensures.partitions c.in_ok-answer.ensures stands,
      over_outputs flows count was id c.args.task c.args.outcome.now o answer (outputs_of c.in_ok-outputs.outputs) there c.in_ok-answer.ensures
          (c.in_ok-outputs.ensures.outputs ∙ ap (λ (r : Reaction). alone r.sent) made),
    )
