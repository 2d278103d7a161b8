use Rattle.std.proofs.Common.{◌<◌, arith, length, ap, ◌∙◌, sym}
use Rattle.site_model.specs.History.{tape}
use Rattle.site_memory.proofs.History.{history_empty, history_more}
use Rattle.site_memory.proofs.walks.tape_in.Goals as goal

pub loop-entry-init : goal.loop-entry-init
loop-entry-init c = c.new-bytes.ensures.items ∙ ap tape (sym history_empty)

pub loop-entry-preserved : goal.loop-entry-preserved
loop-entry-preserved c =
    let below : c.loop-entry.entry-index < length c.args.kept.now = omega arith in
    c.in_ok-push_said.ensures _ c.loop-entry.invariant ∙ ap tape (sym (history_more c.args.kept.now c.loop-entry.entry-index _ below))
