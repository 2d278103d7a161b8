use Rattle.std.proofs.Common.{◌∙◌, ap, sym}
use Rattle.std.specs.List.{slice_get}
use Rattle.dura_value.specs.Views.{id_of}
use Rattle.part_rows.specs.Views.{activity_of}
use Rattle.cell_waits.specs.Waits.{waits_of, is_of_task, is_outcome_of}
use Rattle.cell_waits.proofs.Finding.{none_placed, none_of_task, any_seen}
use Rattle.cell_waits.proofs.waits.Waits.has_outcome.Goals as goal

pub returns-in-Some : goal.returns-in-Some
returns-in-Some c = c.finds_outcome.ensures ∙ any_seen (is_outcome_of (id_of c.args.id.now) c.args.task (activity_of c.args.activity.now)) c.args.self.now.queue.items

pub returns-in-None : goal.returns-in-None
returns-in-None c =
    sym (none_of_task (id_of c.args.id.now) c.args.task (activity_of c.args.activity.now) (waits_of c.args.self.now)
    (none_placed (is_of_task (id_of c.args.id.now) c.args.task) c.args.self.now.first (waits_of c.args.self.now)
    (ap (λ l. slice_get l 0) (sym (c.requires.outcomes (id_of c.args.id.now) c.args.task)) ∙ sym c.in-None.ensures)))
