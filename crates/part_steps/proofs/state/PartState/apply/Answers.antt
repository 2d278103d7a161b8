use Rattle.std.proofs.Common.{Option, subst}
use Rattle.dura_value.specs.declared.outputs.Outputs.{Outputs}
use Rattle.log_items.specs.Plain.{item_of}
use Rattle.dura_model.specs.Partition.{accepted}
use Rattle.part_rows.specs.Parts.{part_of}
use Rattle.part_steps.specs.Applied.{Applied}
use Rattle.part_steps.specs.Outputs.{outputs_by}
use Rattle.part_steps.proofs.Sound.{applied_sound, same_entry}
use Rattle.part_steps.proofs.state.PartState.apply.Goals as goal

pub returns-in-Some : goal.returns-in-Some
returns-in-Some g c =
    let old = c.args.self.rows in
    let new = c.apply_item.new.rows in
    let flows = g.R.Reactions.flows c.args.reactions.now in
    let item = item_of c.args.item.now in
    let done = subst (λ (made : Option Outputs). Applied made (part_of old) (part_of new) (accepted flows old.partitions (part_of old) item) (outputs_by flows (part_of old) item)) c.in-Some.is c.in-Ok.ensures.applied in
    (done.0, done.1, c.in-Ok.ensures.partitions, same_entry flows old.partitions old.number item (part_of old) (part_of new) c.requires.sound.below c.requires.sound.belongs c.requires.begun done.0, applied_sound old new flows item c.requires.sound c.requires.begun c.in-Ok.ensures.order c.in-Ok.ensures.partitions done.0)
