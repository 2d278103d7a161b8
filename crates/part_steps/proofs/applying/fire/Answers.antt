use Rattle.std.proofs.Common.{◌≡◌, ◌∙◌, [], Option, None, Some, OnOk, ap, subst, sym}
use Rattle.std.specs.Prelude.{option_map}
use Rattle.dura_value.specs.Views.{id_of}
use Rattle.flow_syntax.specs.Machine.{fired}
use Rattle.dura_model.specs.Deliveries.{goes_on_from}
use Rattle.dura_model.specs.Partition.{instance_in}
use Rattle.dura_value.specs.ById.{at_number}
use Rattle.part_rows.specs.Parts.{part_of}
use Rattle.part_rows.specs.Reactions.{Reaction, reaction, reaction_of}
use Rattle.part_rows.specs.Views.{row_of}
use Rattle.part_rows.specs.declared.rows.Row.{Row}
use Rattle.part_rows.specs.declared.reactions.Reaction.{Reaction as Made}
use Rattle.part_steps.specs.Outputs.{outputs_of}
use Rattle.part_steps.proofs.Ending.{alone, timer_fires, fired_outputs}
use Rattle.part_steps.proofs.PutBack.{kept_stands}
use Rattle.part_steps.proofs.applying.fire.Goals as goal

pub returns-clause-applied : goal.returns-clause-applied
returns-clause-applied g c =
    let flows = g.R.Reactions.flows c.args.reactions.now in
    let count = c.args.rows.now.partitions in
    let was = part_of c.args.rows.now in
    let id = id_of c.args.id.now in
    let o = instance_in flows id (row_of c.in-Some.row.now) in
    let there = ap (λ (k : Option Row). option_map (instance_in flows id) (option_map row_of k)) (sym c.get.ensures ∙ ap (option_map (λ r. r.now)) c.in-Some.is) in
    let taken = subst (λ r. OnOk r (part_of c.take_timer.new.self ≡ record was { timers = at_number was.timers id c.args.task None })) c.in_ok-made-2.ensures.ok.0 c.take_timer.ensures.taken in
    let effect = goes_on_from o (fired c.args.task) c.args.stamp [] in
    let made : reaction_of c.in_ok-made-2.made ≡ reaction (Some (fired c.args.task)) effect = ap (λ (m : Made). reaction_of m) c.in_ok-made-2.ensures.ok.1 ∙ c.in_ok-made.ensures in
    let again = c.raise_to.new.self.partitions in
    let left = part_of c.raise_to.new.self in
    let new = part_of c.keep_event.new.rows in
    let stands = kept_stands again left new id c.args.stamp (Some (fired c.args.task)) effect (reaction_of c.in_ok-made-2.made) made c.in_ok-outputs.ensures.stands in (
      timer_fires flows count was id c.args.task c.args.stamp o again (part_of c.take_timer.new.self) left new (sym c.may_fire.ensures ∙ c.if-not-may_fire.false) there taken c.raise_to.ensures.raised
          (c.raise_to.ensures.partitions ∙ c.take_timer.ensures.partitions) stands,
      fired_outputs flows count was id c.args.task c.args.stamp o (outputs_of c.in_ok-outputs.outputs) there (c.in_ok-outputs.ensures.outputs ∙ ap (λ (r : Reaction). alone r.sent) made),
    )
