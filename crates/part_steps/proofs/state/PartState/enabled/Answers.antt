use Rattle.std.proofs.Common.{ℕ, ap, sym, subst}
use Rattle.dura_value.specs.Ids.{Id}
use Rattle.dura_value.specs.Items.{ran}
use Rattle.dura_value.specs.Views.{id_of}
use Rattle.part_rows.specs.Parts.{part_of}
use Rattle.part_steps.specs.Enabled.{stamp_at, IsEnabled}
use Rattle.part_steps.proofs.Enabling.{open_enabled, if_next, if_none}
use Rattle.part_steps.proofs.state.PartState.enabled.Goals as goal

pub returns-in-Some-clause-some : goal.returns-in-Some-clause-some
returns-in-Some-clause-some c = λ flows.
    let rows = c.args.self.now.rows in
    let p = part_of rows in
    let stamp = stamp_at p c.args.now in
    let here = open_enabled rows.partitions rows.number p c.requires.belongs c.args.now flows (id_of c.in-Some.message.now.from) (id_of c.in-Some.message.now.to) c.in-Some.ensures.some in
    subst (λ (m : ℕ). IsEnabled flows rows.partitions p stamp (ran (id_of c.in_ok-copy_id.field-0) (id_of c.in_ok-copy_id-2.field-0) m)) (sym c.stamp-stamp.ensures)
    (subst (λ (to : Id). IsEnabled flows rows.partitions p stamp (ran (id_of c.in_ok-copy_id.field-0) to stamp)) (sym (ap id_of c.in_ok-copy_id-2.ensures))
    (subst (λ (from : Id). IsEnabled flows rows.partitions p stamp (ran from (id_of c.in-Some.message.now.to) stamp)) (sym (ap id_of c.in_ok-copy_id.ensures)) here))

pub returns-clause-next : goal.returns-clause-next
returns-clause-next c = if_next (part_of c.args.self.now.rows) (stamp_at (part_of c.args.self.now.rows) c.args.now) c.due.result (sym c.in_default.ensures.oldest) c.due.ensures.first

pub returns-clause-none : goal.returns-clause-none
returns-clause-none c =
    let rows = c.args.self.now.rows in
    if_none rows.partitions rows.number (part_of rows) c.requires.belongs c.args.now c.due.result c.in_default.ensures.none c.due.ensures.none
