use Rattle.std.proofs.Common.{◌∙◌, ap}
use Rattle.dura_value.specs.Views.{id_of}
use Rattle.part_rows.specs.Timers.{timers_in}
use Rattle.dura_value.specs.ById.{cleared}
use Rattle.dura_model.specs.Partition.{Partition}
use Rattle.part_rows.specs.Parts.{part_of}
use Rattle.part_rows.proofs.parts.PartRows.give_up.Goals as goal

pub returns-clause-given_up : goal.returns-clause-given_up
returns-clause-given_up c =
    let was = part_of c.args.self.now in
    let id = id_of c.args.id.now in
    let dropped = c.in_ok-drop_of.ensures.dropped ∙ ap (λ t. cleared (timers_in t) id) c.in_ok-clear_activities.ensures.timers in
    ap (λ (p : Partition). record p { timers = timers_in c.drop_of.new.self }) c.in_ok-clear_activities.ensures.cleared
    ∙ ap (λ t. record was { activities = cleared was.activities id; timers = t }) dropped
