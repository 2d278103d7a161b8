use Rattle.std.proofs.Common.{◌<◌, arith, length, ap, ◌∙◌, sym}
use Rattle.site_model.specs.History.{changes_of}
use Rattle.site_memory.specs.Picked.{torn}
use Rattle.site_memory.proofs.History.{history_empty, history_more}
use Rattle.site_memory.proofs.pick.torn_in.Goals as goal

pub loop-i-init : goal.loop-i-init
loop-i-init c = c.new-image.ensures.items ∙ ap (λ s. torn c.args.fill (changes_of c.args.file s)) (sym history_empty)

pub loop-i-preserved : goal.loop-i-preserved
loop-i-preserved c =
    let below : c.loop-i.i < length c.args.kept.now = omega arith in
    c.in_ok-leave.ensures c.loop-i.invariant
    ∙ ap (λ s. torn c.args.fill (changes_of c.args.file s)) (sym (history_more c.args.kept.now c.loop-i.i _ below))
