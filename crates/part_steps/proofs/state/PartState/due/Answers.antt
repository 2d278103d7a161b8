use Rattle.std.proofs.Common.{ℕ, ap, sym, subst}
use Rattle.dura_value.specs.Ids.{Id}
use Rattle.dura_value.specs.Items.{fired}
use Rattle.dura_value.specs.Views.{id_of}
use Rattle.part_rows.specs.Parts.{part_of}
use Rattle.part_rows.specs.Timers.{IsFirstDue}
use Rattle.part_steps.specs.Enabled.{stamp_at, IsEnabled}
use Rattle.part_steps.proofs.Enabling.{due_enabled}
use Rattle.part_steps.proofs.state.PartState.due.Goals as goal

pub returns-in_ok-copy_id-in-Some-clause-enabled : goal.returns-in_ok-copy_id-in-Some-clause-enabled
returns-in_ok-copy_id-in-Some-clause-enabled c = λ flows.
    let rows = c.args.self.now.rows in
    let p = part_of rows in
    let stamp = stamp_at p c.args.now in
    let timer = c.in-Some.timer.now in
    let first = subst (λ (m : ℕ). IsFirstDue p.timers m timer.due (id_of timer.id) timer.task) c.stamp-stamp.ensures c.in-Some.ensures.first in
    let here = due_enabled rows.partitions rows.number p c.requires.belongs c.args.now flows (id_of timer.id) timer.task timer.due c.requires.owned first in
    subst (λ (m : ℕ). IsEnabled flows rows.partitions p stamp (fired (id_of c.in_ok-copy_id-in-Some.field-0) timer.task m)) (sym c.stamp-stamp.ensures)
    (subst (λ (id : Id). IsEnabled flows rows.partitions p stamp (fired id timer.task stamp)) (sym (ap id_of c.in_ok-copy_id-in-Some.ensures)) here)
