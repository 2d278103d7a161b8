use Rattle.std.proofs.Common.{◌<◌, arith, length, ap, ◌∙◌, sym, subst, []}
use Rattle.site_memory.specs.Record.{history_of}
use Rattle.site_memory.specs.Start.{IsStart}
use Rattle.site_memory.proofs.History.{history_empty, history_more}
use Rattle.site_memory.proofs.Start.{start_empty}
use Rattle.site_memory.proofs.image.files_of.Goals as goal

pub loop-entry-init : goal.loop-entry-init
loop-entry-init c =
    subst (λ s. IsStart c.args.pick (history_of c.args.kept.now) s (history_of c.new-made.result.items)) (sym history_empty)
    (subst (λ s. IsStart c.args.pick (history_of c.args.kept.now) [] s) (sym (ap history_of c.new-made.ensures.items ∙ history_empty))
    (start_empty c.args.pick (history_of c.args.kept.now)))

pub loop-entry-preserved : goal.loop-entry-preserved
loop-entry-preserved c =
    let below : c.loop-entry.entry-index < length c.args.kept.now = omega arith in
    subst (λ s. IsStart c.args.pick (history_of c.args.kept.now) s (history_of c.add_changed.new.made.items)) (sym (history_more c.args.kept.now c.loop-entry.entry-index _ below))
    (c.in_ok-add_changed.ensures _ c.loop-entry.invariant)
