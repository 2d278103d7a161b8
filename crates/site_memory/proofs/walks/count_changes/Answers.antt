use Rattle.std.proofs.Common.{◌<◌, ◌+◌, arith, length, ap, ◌∙◌, sym}
use Rattle.site_model.specs.History.{changes_of}
use Rattle.site_memory.proofs.History.{history_empty, history_more}
use Rattle.site_memory.proofs.walks.count_changes.Goals as goal

pub loop-entry-init : goal.loop-entry-init
loop-entry-init c = record { changes = ap (λ s. length (changes_of c.args.file s)) (sym history_empty); few = omega arith }

pub loop-entry-preserved : goal.loop-entry-preserved
loop-entry-preserved c =
    let below : c.loop-entry.entry-index < length c.args.kept.now = omega arith in
    record {
      changes =
          ap (λ n. n + c.changes_in-changes.result) c.loop-entry.invariant.changes
          ∙ sym (c.changes_in-changes.ensures.changes _)
          ∙ ap (λ s. length (changes_of c.args.file s)) (sym (history_more c.args.kept.now c.loop-entry.entry-index _ below));
      few = omega arith;
    }
